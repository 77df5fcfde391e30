-- When an image is taken.
use Rattle.std.proofs.Common.{All, List, [], ap, append-nil, arith, length, refl, subst, sym, ℕ, ◌∷◌, ◌++◌, ◌<◌, ◌∙◌, ◌≡◌, ◌≤◌}
use Rattle.std.proofs.lemmas.List.Sums.{sum_by-cons}
use Rattle.std.specs.Prelude.{flat_map}
use Rattle.trac_language.specs.Text.{Text}
use Rattle.trac_language.specs.Form.{Form}
use Rattle.trac_language.specs.Store.{cells, form_cells}
use Rattle.trac_image.specs.Fitting.{AreDistinct, AreFit, CanStand}
use Rattle.trac_image.specs.Image.{IsContent, form_image, framed, image_of}
use Rattle.trac_core.specs.Machine.{MachineState}
use Rattle.trac_image.specs.Loading.{IsFitContent, Loads, room_for_forms, with_image}
use Rattle.trac_image.specs.Reading.{IsCharacter, behind_forms, forms_in}
use Rattle.trac_image.proofs.Contents.{framed-tells}
use Rattle.trac_image.specs.Laws.{LoadsWhatWasSaved}
use Rattle.trac_image.proofs.ImageLaws.{all-read, image-told}
use Rattle.trac_image.proofs.ReadBack.{forms-whole, length-forms_in}
use Rattle.trac_image.proofs.Stands.{forms-stand, have-parts, stand-codable, stand-distinct, stand-fit}

module _ (room : ℕ) (bytes : Text) (meta count : ℕ) (forms : Text) (fit : IsFitContent room bytes meta count forms) where
  -- the bytes have one content
  pub one-content : (m n : ℕ) (t : Text) → IsContent bytes m n t → IsFitContent room bytes m n t
  one-content m n t content =
      let told = framed-tells meta m count n forms t fit.content.few content.few (sym fit.content.image ∙ content.image) in
      record {
        content = content;
        fit = subst (λ t. AreFit n room t) told.2 (subst (λ n. AreFit n room forms) told.1 fit.fit);
        distinct = subst (λ t. AreDistinct (forms_in n t)) told.2 (subst (λ n. AreDistinct (forms_in n forms)) told.1 fit.distinct);
        last = (λ i. behind_forms (sym told.1 i) (sym told.2 i)) ∙ fit.last;
      }

  -- such bytes are the image of forms that can stand
  pub content-image : All IsCharacter forms → (bytes ≡ image_of (forms_in count forms) meta) × CanStand (forms_in count forms) room
  content-image characters =
      let read = forms_in count forms in
      let whole : forms ≡ flat_map form_image read =
      forms-whole count forms characters (have-parts count room forms fit.fit)
      ∙ ap (λ t. flat_map form_image read ++ t) fit.last ∙ simp append-nil in (
        fit.content.image ∙ (λ i. framed meta (sym (length-forms_in count forms) i) (whole i)),
        forms-stand count room forms fit.fit fit.distinct,
      )

  -- an image is taken
  pub image-loads : (old new : MachineState) → room ≡ room_for_forms old → All IsCharacter forms → new ≡ with_image (forms_in count forms) meta old → Loads old bytes new
  image-loads old new room_is characters is =
      let found = content-image characters in
      let stand = subst (CanStand (forms_in count forms)) room_is found.1 in
      subst (Loads old bytes) (sym is) (record { image = record { image = found.0; stand = stand }; rest = refl })

few-forms : (forms : List Form) → length forms ≤ cells forms
few-forms [] = omega arith
few-forms (form ∷ forms) = omega (arith, few-forms forms, sum_by-cons form_cells form forms)

-- the image of forms that can stand is such bytes
pub image-content : (room : ℕ) (bytes : Text) (forms : List Form) (meta : ℕ) → room < 4294967296 → bytes ≡ image_of forms meta → CanStand forms room → IsFitContent room bytes meta (length forms) (flat_map form_image forms)
image-content room bytes forms meta few is stand =
    let codable = stand-codable forms room few stand in
    let t = flat_map form_image forms in
    let read = all-read forms codable in
    let same : t ++ [] ≡ t = simp append-nil in
    record {
      content = record { image = is; few = omega (arith, few, stand.fit, few-forms forms) };
      fit = subst (AreFit (length forms) room) same (stand-fit forms room [] codable stand);
      distinct = subst AreDistinct (sym read.forms) (stand-distinct forms room stand);
      last = read.behind;
    }

pub no-bytes : (t : Text) → length t ≡ 0 → t ≡ []
no-bytes [] none = refl
no-bytes (b ∷ t) none = absurd (omega (arith, none))

-- the room for forms is the same once a machine's own are gone
pub room-freed : (m n : MachineState) (meta : ℕ) → n ≡ with_image [] meta m → room_for_forms n ≡ room_for_forms m
room-freed m n meta is = ap room_for_forms is ∙ freed
  where
    freed : room_for_forms (with_image [] meta m) ≡ room_for_forms m
    freed = omega arith

-- a machine leaves no more room for forms than it has
room-few : (m : MachineState) → m.room < 4294967296 → room_for_forms m < 4294967296
room-few m few = omega (arith, few)

pub saved-loaded : LoadsWhatWasSaved
saved-loaded m forms meta few stand =
    let room = room_for_forms m in
    let room_is_few = room-few m few in (
      (forms, (meta, record { image = refl; stand = stand })),
      λ new loads. (
          let found = loads.image.stand in
          let had = new.memory.forms in
          let long : length had < 4294967296 = omega (arith, room_is_few, found.fit, few-forms had) in
          let own : length forms < 4294967296 = omega (arith, room_is_few, stand.fit, few-forms forms) in
          image-told had forms new.memory.meta meta long own (stand-codable had room room_is_few found) (stand-codable forms room room_is_few stand) (sym loads.image.image)
          ),
    )
