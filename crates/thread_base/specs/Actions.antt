-- What signals do (POSIX.1 signal actions).
use Rattle.std.specs.Prelude.{ℕ, ◌==◌, ◌||◌, Bool, true, false}
use Rattle.thread_base.specs.declared.action.Action.{Action}
use Rattle.thread_base.specs.declared.action.Action.TheVariants.{Default, Ignore, Handler}

-- the default of a signal is to ignore it: CHLD, URG and WINCH (POSIX.1 signal.h, Linux for WINCH)
abbrev pub is_ignored_by_default : ℕ → Bool
is_ignored_by_default sig = (sig == 17) || ((sig == 23) || (sig == 28))

-- an action ignores a signal (POSIX.1 sigaction: SIG_IGN, or SIG_DFL where the default is to ignore)
abbrev pub ignores : Action → ℕ → Bool
ignores Default sig = is_ignored_by_default sig
ignores Ignore sig = true
ignores (Handler at mask) sig = false
