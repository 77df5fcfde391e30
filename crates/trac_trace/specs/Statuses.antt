-- The exit statuses of runs that are shown.
use Rattle.std.specs.Prelude.{ℕ, zero, suc, ◌==◌, nat_lt, if◌then◌else◌}
use Rattle.trac_language.specs.declared.fate.Fate.{Fate}
use Rattle.trac_language.specs.declared.fate.Fate.TheVariants.{Halted, InputEnded, OutputFailed}
use Rattle.trac_command.specs.Lines.{status_of}

-- the exit status of `trac_trace` after a run with this fate: that of `trac`, but for output that failed,
-- which here is kept in memory
abbrev pub traced_status : Fate → ℕ
traced_status OutputFailed = 6
traced_status fate = status_of fate

-- the status after a run with this fate, and with as many warnings as the number says: a fault has its own
-- status, and 7 says that there are warnings
abbrev pub warned_status : Fate → ℕ → ℕ
warned_status Halted zero = 0
warned_status Halted (suc n) = 7
warned_status InputEnded zero = 0
warned_status InputEnded (suc n) = 7
warned_status fate n = traced_status fate

-- the worse of two statuses: 0 is the best, 7 the next, and of the others the greater is worse
abbrev pub worse : ℕ → ℕ → ℕ
worse a b =
    if a == 0 then b
    else (if b == 0 then a
    else (if a == 7 then b
    else (if b == 7 then a
    else (if nat_lt a b then b else a))))
