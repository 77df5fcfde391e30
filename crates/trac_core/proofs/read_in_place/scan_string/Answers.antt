use Rattle.trac_core.proofs.Imports.{◌≡◌, ◌+◌, ◌-◌, ◌≤◌, ◌++◌, All, take, drop, length, refl, sym, ap, ◌∙◌, arith, subst, All-take, All-drop, drop-drop, take-take, length-take, length-map, take-map, slice_range, IsByte, IsOrdinary, text_of_cells, Contents}
use Rattle.std.proofs.lemmas.List.{take_all, drop_all}
use Rattle.trac_space.specs.Texts.{character_of}
use Rattle.trac_core.proofs.read_in_place.scan_string.Goals as goal

pub text-requires : goal.text-requires
text-requires c =
    let same = ap (λ (w : Contents). w.neutral) c.drop_active.ensures.rest in
    let bytes : All IsByte (drop 4 c.drop_active.new.self.neutral) = subst (λ n. All IsByte (drop 4 n)) (sym same) c.requires.bytes in
    record {
      order = omega arith;
      within = omega arith;
      bytes = All-take IsByte _ (drop 4 c.drop_active.new.self.neutral) bytes;
    }

pub neutral_to_active-requires-clause-bytes : goal.neutral_to_active-requires-clause-bytes
neutral_to_active-requires-clause-bytes c =
    let n = c.ordinary_characters-count.result in
    let neutral = c.args.work.now.neutral in
    let same = ap (λ (w : Contents). w.neutral) c.drop_active.ensures.rest in
    subst (λ cells. All IsByte (drop (4 + n) cells)) (sym same)
    (subst (All IsByte) (drop-drop n 4 neutral) (All-drop IsByte n (drop 4 neutral) c.requires.bytes))

pub returns-then-len-gt0-clause-leaves : goal.returns-then-len-gt0-clause-leaves
returns-then-len-gt0-clause-leaves c =
    let old = c.args.work.now in
    let n = c.ordinary_characters-count.result in
    let reach = c.min.result in
    let rest = c.drop_active.ensures.rest in
    let same = ap (λ (w : Contents). w.neutral) rest in
    let long = ap (λ (w : Contents). length w.neutral) rest in
    let seen = c.text.ensures.text ∙ ap (λ cells. text_of_cells (slice_range cells 4 (4 + reach))) same in
    let part : length c.text.result.now ≡ length (slice_range old.neutral 4 (4 + reach)) = sym (length-map c.text.result.now character_of) ∙ ap length seen ∙ length-map (slice_range old.neutral 4 (4 + reach)) character_of in
    let within : n ≤ reach = omega (arith, c.ordinary_characters-count.ensures.within, part, length-take (4 + reach - 4) (drop 4 old.neutral)) in
    let front : take n (text_of_cells c.text.result.now) ≡ take n (text_of_cells (drop 4 old.neutral)) =
    ap (take n) (seen ∙ sym (take-map character_of (4 + reach - 4) (drop 4 old.neutral)))
    ∙ take-take n (4 + reach - 4) (text_of_cells (drop 4 old.neutral)) (omega (arith, within)) in (
      n,
      record {
        few = omega (arith, within, c.min.ensures);
        within = omega (arith, within, c.min.ensures, c.from.ensures, c.neutral_len-len.ensures.value, long, c.requires.within);
        ordinary = subst (All IsOrdinary) front c.ordinary_characters-count.ensures.ordinary;
        moved = c.neutral_to_active.ensures.moved ∙ ap (λ (w : Contents). record w { neutral = take (4 + n) w.neutral; active = drop (4 + n) w.neutral ++ w.active }) rest;
      },
    )

pub returns-else-len-gt0-clause-leaves : goal.returns-else-len-gt0-clause-leaves
returns-else-len-gt0-clause-leaves c =
    let old = c.args.work.now in
    let short : length old.neutral ≡ 4 = omega (arith, c.neutral_len-len.ensures.value, ap (λ (w : Contents). length w.neutral) c.drop_active.ensures.rest, c.requires.within, c.if-len-gt0.false) in (
      0,
      record {
        few = omega arith;
        within = c.requires.within;
        ordinary = λ k d within. absurd (omega (arith, within));
        moved = c.drop_active.ensures.rest ∙ rw (take_all 4 old.neutral (omega (arith, short)), drop_all 4 old.neutral (omega (arith, short))) refl;
      },
    )
