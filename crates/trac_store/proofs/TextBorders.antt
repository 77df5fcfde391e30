-- Borders of a text, and what a search by them keeps.
use Rattle.trac_store.proofs.Imports.{◌≡◌, ℕ, zero, suc, ◌+◌, ◌-◌, ◌<◌, ◌≤◌, Bool, true, false, List, [], ◌∷◌, length, drop, get_or, ⊎_elim, refl, sym, ap, subst, ◌∙◌, arith, length-drop, get_or-drop, cases_eq, cases_lt, false≢true, and_parts, and_from, eq-eqb}
use Rattle.trac_store.proofs.Imports.{eqb-true, Cell, Byte, Comma, byte_at, IsBorder, IsLongestBorder, GoesOn, IsNextBorder, is_byte, begins_cells, text_cells_at, NonePasses, IsFirst}
use Rattle.trac_store.proofs.Gaps.{begins-few}

-- a border of a border is one
border-of-border : (text : List ℕ) (n m b : ℕ) → IsBorder text n m → IsBorder text m b → IsBorder text n b
border-of-border text n m b outer inner = record {
  within = omega (arith, outer.within, inner.within);
  same = λ k below.
      let e : n - m + (m - b + k) ≡ n - b + k = omega (arith, outer.within, inner.within) in
      inner.same k below ∙ outer.same (m - b + k) (omega (arith, inner.within, below)) ∙ ap (byte_at text) e;
}

-- the shorter of two is one of the longer
border-of-longer : (text : List ℕ) (n m b : ℕ) → b ≤ m → IsBorder text n m → IsBorder text n b → IsBorder text m b
border-of-longer text n m b order longer shorter = record {
  within = order;
  same = λ k below.
      let e : n - m + (m - b + k) ≡ n - b + k = omega (arith, longer.within, order) in
      shorter.same k below ∙ sym (longer.same (m - b + k) (omega (arith, order, below)) ∙ ap (byte_at text) e);
}

-- the borders that go on with a cell are no longer than this one
pub record GoesUpTo (text : List ℕ) (n : ℕ) (cell : Cell) (border : ℕ) : Type 0 where
  pub border_is : IsBorder text n border
  pub most : (b : ℕ) → GoesOn text n cell b → b ≤ border

module _ (text : List ℕ) (n border : ℕ) (cell : Cell) (upto : GoesUpTo text n cell border) where
  other : is_byte (byte_at text border) cell ≡ false → (b : ℕ) → GoesOn text n cell b → b < border
  other differ b goes =
      ⊎_elim
      (λ same. absurd (false≢true (sym differ ∙ ap (λ k. is_byte (byte_at text k) cell) (sym same) ∙ goes.next)))
      (λ unlike. omega (arith, upto.most b goes, unlike))
      (cases_eq b border)

  -- where it doesn't go on, those that do are no longer than its own longest
  pub up-to-next : (next : ℕ) → is_byte (byte_at text border) cell ≡ false → IsLongestBorder text border next → GoesUpTo text n cell next
  up-to-next next differ long = record {
    border_is = border-of-border text n border next upto.border_is long.border;
    most = λ b goes.
        let less = other differ b goes in
        long.longest b less (border-of-longer text n border b (omega (arith, less)) upto.border_is goes.border);
  }

  pub next-none : border ≡ 0 → is_byte (byte_at text border) cell ≡ false → IsNextBorder text n cell 0
  next-none zero_is differ = record {
    some = λ some. absurd (omega (arith, some));
    most = λ b goes. absurd (omega (arith, other differ b goes, zero_is));
  }

-- one cell is one byte
one-byte : (b c : ℕ) (cell : Cell) → is_byte b cell ≡ true → is_byte c cell ≡ true → b ≡ c
one-byte b c (Byte x) p q = sym (eqb-true x b p) ∙ eqb-true x c q
one-byte b c cell p q = absurd (false≢true p)

-- the first n characters of the text stand at the place
abbrev pub StandsAt : List ℕ → List Cell → ℕ → ℕ → Type 0
StandsAt text cells at n = (k : ℕ) → k < n → is_byte (byte_at text k) (get_or cells (at + k) Comma) ≡ true

begin-first : (text : List ℕ) (cells : List Cell) → ((k : ℕ) → k < length text → is_byte (byte_at text k) (get_or cells k Comma) ≡ true) → begins_cells text cells ≡ true
begin-first [] cells stands = refl
begin-first (b ∷ text) [] stands = absurd (false≢true (stands 0 (omega arith)))
begin-first (b ∷ text) (cell ∷ cells) stands =
    and_from (is_byte b cell) (begins_cells text cells) (stands 0 (omega arith)) (begin-first text cells (λ k below. stands (suc k) (omega (arith, below))))

stand-first : (text : List ℕ) (cells : List Cell) → begins_cells text cells ≡ true → (k : ℕ) → k < length text → is_byte (byte_at text k) (get_or cells k Comma) ≡ true
stand-first [] cells begins k below = absurd (omega (arith, below))
stand-first (b ∷ text) [] begins k below = absurd (false≢true begins)
stand-first (b ∷ text) (cell ∷ cells) begins zero below = (and_parts (is_byte b cell) (begins_cells text cells) begins).0
stand-first (b ∷ text) (cell ∷ cells) begins (suc k) below = stand-first text cells (and_parts (is_byte b cell) (begins_cells text cells) begins).1 k (omega (arith, below))

stands-begins : (text : List ℕ) (cells : List Cell) (at : ℕ) → StandsAt text cells at (length text) → text_cells_at text cells at ≡ true
stands-begins text cells at stands = begin-first text (drop at cells) (λ k below. ap (is_byte (byte_at text k)) (get_or-drop at cells k Comma) ∙ stands k below)

begins-stands : (text : List ℕ) (cells : List Cell) (at : ℕ) → text_cells_at text cells at ≡ true → StandsAt text cells at (length text)
begins-stands text cells at begins k below = ap (is_byte (byte_at text k)) (sym (get_or-drop at cells k Comma)) ∙ stand-first text (drop at cells) begins k below

not-true : (b : Bool) → (b ≡ true → ⊥) → b ≡ false
not-true true never = absurd (never refl)
not-true false never = refl

-- the first `matched` characters of the text stand before place i, and it stands nowhere before them
pub record Searched (text : List ℕ) (cells : List Cell) (from i matched : ℕ) : Type 0 where
  pub order : from + matched ≤ i
  pub stands : StandsAt text cells (i - matched) matched
  pub none : (a : ℕ) → from ≤ a → a + matched < i → text_cells_at text cells a ≡ false

module _ (text : List ℕ) (cells : List Cell) (from i matched next : ℕ) (few : matched < length text) (done : Searched text cells from i matched) (is : IsNextBorder text matched (get_or cells i Comma) next) where
  stands-next : (k : ℕ) → k < next → is_byte (byte_at text k) (get_or cells (i + 1 - next + k) Comma) ≡ true
  stands-next k below =
      let goes = is.some (omega (arith, below)) in
      let within = goes.border.within in
      let order = done.order in
      ⊎_elim
      (λ last.
      let here : i ≡ i + 1 - next + k = omega (arith, last, below, within, order) in
      let there : next - 1 ≡ k = sym last in
      subst (λ p. is_byte (byte_at text k) (get_or cells p Comma) ≡ true) here (subst (λ p. is_byte (byte_at text p) (get_or cells i Comma) ≡ true) there goes.next))
      (λ before.
      let less : k < next - 1 = omega (arith, before, below) in
      let shift = matched - (next - 1) + k in
      let here : i - matched + shift ≡ i + 1 - next + k = omega (arith, less, within, order) in
      let stood = done.stands shift (omega (arith, less, within)) in
      subst (λ p. is_byte (byte_at text k) (get_or cells p Comma) ≡ true) here (ap (λ b. is_byte b (get_or cells (i - matched + shift) Comma)) (goes.border.same k less) ∙ stood))
      (cases_eq k (next - 1))

  -- a text that stands from within goes on with the cell
  goes-there : (a : ℕ) → a ≤ i → i ≤ a + matched → StandsAt text cells a (length text) → GoesOn text matched (get_or cells i Comma) (i - a)
  goes-there a start within stands = record {
    border = record {
      within = omega (arith, start, within);
      same = λ k below.
          let shift = matched - (i - a) + k in
          let order = done.order in
          let here : i - matched + shift ≡ a + k = omega (arith, start, within, below, order) in
          let stood = done.stands shift (omega (arith, start, within, below)) in
          one-byte (byte_at text k) (byte_at text shift) (get_or cells (a + k) Comma) (stands k (omega (arith, below, within, few))) (subst (λ p. is_byte (byte_at text shift) (get_or cells p Comma) ≡ true) here stood);
    };
    next =
        let here : a + (i - a) ≡ i = omega (arith, start) in
        subst (λ p. is_byte (byte_at text (i - a)) (get_or cells p Comma) ≡ true) here (stands (i - a) (omega (arith, start, within, few)));
  }

  none-next : (a : ℕ) → from ≤ a → a + next < i + 1 → text_cells_at text cells a ≡ false
  none-next a above below =
      ⊎_elim
      (λ before. done.none a above before)
      (λ within. not-true (text_cells_at text cells a) (λ begins.
      let goes = goes-there a (omega (arith, below)) within (begins-stands text cells a begins) in
      omega (arith, is.most (i - a) goes, below)))
      (cases_lt (a + matched) i)

  pub searched-next : Searched text cells from (i + 1) next
  searched-next = record {
    order = ⊎_elim (λ lt. omega (arith, lt, done.order)) (λ le. omega (arith, (is.some le).border.within, done.order)) (cases_lt next 1);
    stands = stands-next;
    none = none-next;
  }

  pub searched-found : next ≡ length text → i < length cells → IsFirst (text_cells_at text cells) from (length cells) (i + 1 - next)
  searched-found all inside =
      let order = searched-next.order in
      record {
        above = omega (arith, order);
        within = omega (arith, order, all, few, inside);
        passes = stands-begins text cells (i + 1 - next) (λ k below. stands-next k (omega (arith, below, all)));
        before = λ a above below. none-next a above (omega (arith, below, order));
      }

module _ (text : List ℕ) (cells : List Cell) (from i matched : ℕ) (done : Searched text cells from i matched) where
  -- at the end it stands nowhere
  pub searched-all : length cells ≤ i → matched < length text → NonePasses (text_cells_at text cells) from (length cells)
  searched-all end few a above below =
      ⊎_elim
      (λ before. done.none a above before)
      (λ within. begins-few text (drop a cells) (omega (arith, length-drop a cells, within, end, few, below)))
      (cases_lt (a + matched) i)

-- the longest border of one character more
module _ (text : List ℕ) (n border next : ℕ) (cell : Cell) (cell_is : cell ≡ Byte (byte_at text n)) (long : IsLongestBorder text n border) (is : IsNextBorder text border cell next) where
  next-few : next ≤ border + 1
  next-few = ⊎_elim (λ lt. omega (arith, lt)) (λ le. omega (arith, (is.some le).border.within)) (cases_lt next 1)

  same-next : (k : ℕ) → k < next → byte_at text k ≡ byte_at text (n + 1 - next + k)
  same-next k below =
      let goes = is.some (omega (arith, below)) in
      let shorter = long.shorter in
      let few = next-few in
      ⊎_elim
      (λ last.
      let here : n ≡ n + 1 - next + k = omega (arith, last, below, few, shorter) in
      let there : next - 1 ≡ k = sym last in
      let stood = subst (λ p. is_byte (byte_at text p) cell ≡ true) there goes.next in
      sym (eqb-true (byte_at text n) (byte_at text k) (subst (λ c. is_byte (byte_at text k) c ≡ true) cell_is stood)) ∙ ap (byte_at text) here)
      (λ before.
      let whole = border-of-border text n border (next - 1) long.border goes.border in
      let here : n - (next - 1) + k ≡ n + 1 - next + k = omega (arith, before, below, few, shorter) in
      whole.same k (omega (arith, before, below)) ∙ ap (byte_at text) here)
      (cases_eq k (next - 1))

  longest-next : (c : ℕ) → c < n + 1 → IsBorder text (n + 1) c → c ≤ next
  longest-next zero less whole = omega arith
  longest-next (suc c) less whole =
      let shorter : c < n = omega (arith, less) in
      let whole_n : IsBorder text n c = record {
        within = omega (arith, shorter);
        same = λ k below.
            let e : n + 1 - suc c + k ≡ n - c + k = omega (arith, shorter) in
            whole.same k (omega (arith, below)) ∙ ap (byte_at text) e;
      } in
      let e : n + 1 - suc c + c ≡ n = omega (arith, shorter) in
      let last : byte_at text n ≡ byte_at text c = sym (whole.same c (omega arith) ∙ ap (byte_at text) e) in
      let goes : GoesOn text border cell c = record {
        border = border-of-longer text n border c (long.longest c shorter whole_n) long.border whole_n;
        next = subst (λ x. is_byte (byte_at text c) x ≡ true) (sym cell_is) (eq-eqb (byte_at text n) (byte_at text c) last);
      } in
      omega (arith, is.most c goes)

  pub longest-more : IsLongestBorder text (n + 1) next
  longest-more = record {
    shorter = omega (arith, next-few, long.shorter);
    border = record { within = omega (arith, next-few, long.shorter); same = same-next };
    longest = longest-next;
  }

-- a border that goes on has one character more
pub next-within : (text : List ℕ) (n : ℕ) (cell : Cell) (next : ℕ) → IsNextBorder text n cell next → next ≤ n + 1
next-within text n cell next is = ⊎_elim (λ lt. omega (arith, lt)) (λ le. omega (arith, (is.some le).border.within)) (cases_lt next 1)
