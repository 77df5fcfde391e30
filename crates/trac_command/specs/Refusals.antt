-- The exit status where the words give no settings.
use Rattle.std.specs.Prelude.{ℕ, Bool, false}
use Rattle.clap.specs.declared.error.kind.ErrorKind.{ErrorKind}
use Rattle.clap.specs.declared.error.kind.ErrorKind.TheVariants.{DisplayHelp, OutOfMemory}
use Rattle.std.specs.declared.io.ErrorKind as unread
use Rattle.std.specs.declared.io.ErrorKind.TheVariants as why

-- the exit status of the program where the words gave this error in place of settings
abbrev pub refusal_status : ErrorKind → ℕ
refusal_status DisplayHelp = 0
refusal_status OutOfMemory = 6
refusal_status _ = 2

-- the exit status of the program where the words gave this error, once it was shown or
-- could not be: a help that could not be written is an output that failed
abbrev pub shown_status : ErrorKind → Bool → ℕ
shown_status DisplayHelp false = 5
shown_status kind shown = refusal_status kind

-- the exit status of the program where the words could not be read
abbrev pub unread_status : unread.ErrorKind → ℕ
unread_status why.OutOfMemory = 6
unread_status _ = 2
