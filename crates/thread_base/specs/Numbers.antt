-- The ranges of numbers, and the numbers of names.
use Rattle.std.specs.Prelude.{ℕ, ◌≤◌, ◌==◌, ◌&&◌, ◌||◌, Bool, not, IsTrue, nat_le, nat_lt, if◌then◌else◌, bit_and}
use Rattle.std.specs.Int.{bit_at, bit_not, w32}
use Rattle.thread_base.specs.declared.Family.{Family}
use Rattle.thread_base.specs.declared.Family.TheVariants.{Threads, Sync, Signals}
use Rattle.thread_base.specs.declared.Policy.{Policy}
use Rattle.thread_base.specs.declared.Policy.TheVariants.{Other, Fifo, Rr}
use Rattle.thread_base.specs.declared.Errno.{Errno}
use Rattle.thread_base.specs.declared.Errno.TheVariants.{EPERM, ESRCH, EINTR, EBADF, EAGAIN, EFAULT, EBUSY, EINVAL, EDEADLK, ENOSYS, ETIMEDOUT}

-- a thread's number (this project's limit)
abbrev pub IsTid : ℕ → Type 0
IsTid n = (1 ≤ n) × (n ≤ 64)

-- a priority's number (this project's limit; POSIX.1 asks for at least 32)
abbrev pub IsPrio : ℕ → Type 0
IsPrio n = n ≤ 31

-- a signal's number is in scope: job control is left out (POSIX.1 signals, the numbers of Linux)
abbrev pub is_in_scope : ℕ → Bool
is_in_scope n = nat_le 1 n && (nat_le n 31 && (nat_lt n 18 || nat_lt 22 n))

-- a number is that of a signal in scope (POSIX.1 signals, the numbers of Linux)
abbrev pub IsInScope : ℕ → Type 0
IsInScope n = IsTrue (is_in_scope n)

-- a signal can be blocked: every one in scope but KILL (POSIX.1 signal masks)
abbrev pub can_block : ℕ → Bool
can_block n = is_in_scope n && not (n == 9)

-- a set of signals is a word in which bit s stands for signal s (this project's own)
abbrev pub has_signal : ℕ → ℕ → Bool
has_signal set n = bit_at set n == 1

-- the set of all signals that can be blocked
abbrev pub all_blocked : ℕ
all_blocked = 0xFF83FDFE

-- a word's signals that can be blocked
abbrev pub set_of : ℕ → ℕ
set_of word = bit_and word all_blocked

-- the signals of a set that another does not have
abbrev pub set_without : ℕ → ℕ → ℕ
set_without set other = bit_and set (bit_not w32 other)

-- a number that the call table has (this project's own numbers)
abbrev pub IsCall : ℕ → Type 0
IsCall n = IsTrue ((n == 63) || ((n == 64) || ((n == 93) || (nat_le 256 n && nat_le n 294))))

-- the part of the kernel in which a call of the table begins (this project's own)
abbrev pub family_of : ℕ → Family
family_of n = if n == 93 || (nat_le 256 n && nat_le n 273) then Threads else if nat_le 274 n && nat_le n 285 then Sync else Signals

-- a policy's number (Linux)
abbrev pub IsPolicy : ℕ → Type 0
IsPolicy n = n ≤ 2

-- the policy of a number (POSIX.1 scheduling policies)
abbrev pub policy_of : ℕ → Policy
policy_of n = if n == 0 then Other else if n == 1 then Fifo else Rr

-- the number of an error (POSIX.1 error names, the numbers of Linux)
abbrev pub code_of : Errno → ℕ
code_of EPERM = 1
code_of ESRCH = 3
code_of EINTR = 4
code_of EBADF = 9
code_of EAGAIN = 11
code_of EFAULT = 14
code_of EBUSY = 16
code_of EINVAL = 22
code_of EDEADLK = 35
code_of ENOSYS = 38
code_of ETIMEDOUT = 110
