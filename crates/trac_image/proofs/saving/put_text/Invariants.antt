use Rattle.trac_image.proofs.Imports.{◌≡◌, drop, page, wrote}
use Rattle.trac_image.proofs.saving.put_text.Given as goal

-- what is left to write gives what all gives
abbrev pub invariant-loop-byte : goal.invariant-loop-byte
invariant-loop-byte l =
    wrote (drop l.byte-index l.text) (page l.at l.room) ≡ wrote l.text (page l.fn.at l.fn.room)
