use Rattle.trac_image.proofs.LoadedImages.{saved-loaded}
use Rattle.trac_image.proofs.laws.saved_forms_are_loaded.Goals as goal

pub returns : goal.returns
returns c = saved-loaded
