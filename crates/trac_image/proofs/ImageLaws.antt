-- That an image tells the forms of which it is.
use Rattle.std.proofs.Common.{◌≡◌, List, append-nil, length, subst, sym, ◌∙◌, ◌++◌, []}
use Rattle.std.specs.Prelude.{flat_map}
use Rattle.trac_language.specs.Form.{Form}
use Rattle.trac_image.specs.Image.{form_image}
use Rattle.trac_image.specs.Laws.{AreCodable, TellsForms}
use Rattle.trac_image.specs.Reading.{forms_in}
use Rattle.trac_image.proofs.Contents.{framed-tells}
use Rattle.trac_image.proofs.ReadBack.{ReadsAll, forms-read}

-- forms are read from their images
pub all-read : (forms : List Form) → AreCodable forms → ReadsAll forms [] (flat_map form_image forms)
all-read forms codable =
    let same : flat_map form_image forms ++ [] ≡ flat_map form_image forms = simp append-nil in
    subst (ReadsAll forms []) same (forms-read forms [] codable)

pub image-told : TellsForms
image-told a b m n a_few b_few ha hb same =
    let told = framed-tells m n (length a) (length b) (flat_map form_image a) (flat_map form_image b) a_few b_few same in
    (sym (all-read a ha).forms ∙ (λ i. forms_in (told.1 i) (told.2 i)) ∙ (all-read b hb).forms, told.0)
