use Rattle.trac_image.proofs.ImageLaws.{image-told}
use Rattle.trac_image.proofs.laws.image_tells_forms.Goals as goal

pub returns : goal.returns
returns c = image-told
