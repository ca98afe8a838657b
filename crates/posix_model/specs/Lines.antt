-- The lines of a report (this project's own format).
use Rattle.std.specs.Prelude.{ℕ, ◌+◌, ◌-◌, ◌/◌, ◌%◌, ◌^◌, ◌==◌, Bool, not, if◌then◌else◌, List, [], ◌∷◌, ◌++◌, codes, decimal, nat_lt, slice_index, slice_index_or, bit_and}
use Rattle.std.specs.List.{flat_map, range_with_len}
use Rattle.thread_base.specs.Priority.{tids}
use Rattle.rv_exec.specs.Window.{bytes_at}
use Rattle.rv_exec.specs.declared.Special.{Special}
use Rattle.rv_exec.specs.declared.Special.TheVariants.{Handler, Cleanup, Start}
use Rattle.posix_model.specs.declared.Report.{Report}
use Rattle.posix_model.specs.declared.Reply.{Reply}
use Rattle.posix_model.specs.declared.Reply.TheVariants.{Values, Block, Exit, Cancel as CancelReply, Enter, End}
use Rattle.posix_model.specs.declared.Head.{Head}
use Rattle.posix_model.specs.declared.Head.TheVariants.{Quiet, Call, Ret, Fault, ArriveSig, ArriveTick, ArriveData, ArriveEof, Deliver, Accept, Interrupt, Cancel}
use Rattle.posix_model.specs.declared.Ending.{Ending}
use Rattle.posix_model.specs.declared.Ending.TheVariants.{Exit as ExitWith, Killed, Idle, Budget}

-- a blank and a number
abbrev pub number : ℕ → List ℕ
number n = 32 ∷ decimal n

-- a word, numbers, and the line's end
abbrev pub line : List ℕ → List ℕ → List ℕ
line word numbers = word ++ flat_map number numbers ++ 10 ∷ []

-- a reply: two numbers, or a word
abbrev pub reply_text : Reply → List ℕ
reply_text (Values error value) = number error ++ number value
reply_text Block = codes " block"
reply_text Exit = codes " exit"
reply_text CancelReply = codes " cancel"
reply_text Enter = codes " enter"
reply_text End = codes " end"

-- a special return's word
abbrev pub special_text : Special → List ℕ
special_text Handler = codes " handler"
special_text Cleanup = codes " cleanup"
special_text Start = codes " start"

-- what arrived: numbers, a word, and its own numbers
abbrev pub arrival : List ℕ → List ℕ → List ℕ → List ℕ
arrival entries word numbers = codes "arrive" ++ flat_map number entries ++ word ++ flat_map number numbers ++ 10 ∷ []

-- the main line; a plain instruction has none
unfoldable pub head_line : ℕ → Head → List ℕ
head_line t Quiet = []
head_line t (Call call args reply) = codes "call" ++ number t ++ number call ++ flat_map number args ++ codes " =" ++ reply_text reply ++ 10 ∷ []
head_line t (Ret which) = codes "ret" ++ number t ++ special_text which ++ 10 ∷ []
head_line t (Fault sig) = line (codes "fault") (t ∷ sig ∷ [])
head_line t (ArriveSig first count sig) = arrival (first ∷ count ∷ []) (codes " sig") (sig ∷ [])
head_line t (ArriveTick first) = arrival (first ∷ []) (codes " tick") []
head_line t (ArriveData first len) = arrival (first ∷ []) (codes " data") (len ∷ [])
head_line t (ArriveEof first) = arrival (first ∷ []) (codes " eof") []
head_line t (Deliver to sig count) = line (codes "deliver") (to ∷ sig ∷ count ∷ [])
head_line t (Accept to sig count) = line (codes "accept") (to ∷ sig ∷ count ∷ [])
head_line t (Interrupt to sig count) = line (codes "interrupt") (to ∷ sig ∷ count ∷ [])
head_line t (Cancel to) = line (codes "cancel") (to ∷ [])

-- a tick let the alarm go off
unfoldable pub alarm_line : Report → List ℕ
alarm_line r = if r.alarm then codes "alarm\n" else []

-- a digit in lower-case hexadecimal
abbrev pub hex_digit : ℕ → ℕ
hex_digit n = if nat_lt n 10 then 48 + n else 87 + n

-- two digits of a byte
abbrev pub hex_byte : ℕ → List ℕ
hex_byte b = hex_digit (b / 16) ∷ hex_digit (b % 16) ∷ []

-- two digits of each byte
abbrev pub hex : List ℕ → List ℕ
hex bytes = flat_map hex_byte bytes

-- an out line up to its bytes
unfoldable pub out_head : ℕ → ℕ → List ℕ
out_head t descriptor = codes "out" ++ number t ++ number descriptor ++ codes " "

-- the bytes that a thread wrote to a descriptor
abbrev pub out_text : ℕ → ℕ → List ℕ → List ℕ
out_text t descriptor bytes = out_head t descriptor ++ (hex bytes ++ 10 ∷ [])

-- what a write wrote, where it wrote a byte at least
unfoldable pub out_line : Report → List ℕ → List ℕ
out_line r memory = if r.out_len == 0 then [] else out_text r.tid r.out_fd (bytes_at memory r.out_buf r.out_len)

-- a signal that was accepted or delivered beside the main line; KILL ends the process and goes to no thread
unfoldable pub took_line : Report → List ℕ
took_line r =
    if r.took == 0 then []
    else if r.took == 1 then line (codes "accept") (r.tid ∷ r.took_sig ∷ r.took_count ∷ [])
    else line (codes "deliver") ((if r.took_sig == 9 then 0 else r.tid) ∷ r.took_sig ∷ r.took_count ∷ [])

-- the numbers of a table by signal
unfoldable pub sig_numbers : List ℕ
sig_numbers = range_with_len 0 32

-- the count of one signal under a word, where it is not 0
abbrev pub count_line : List ℕ → List ℕ → ℕ → List ℕ
count_line word counts sig =
    if slice_index counts sig == 0 then [] else line word (sig ∷ slice_index counts sig ∷ [])

-- a line for each signal whose count is not 0, by signal
unfoldable pub count_lines : List ℕ → List ℕ → List ℕ
count_lines word counts = flat_map (count_line word counts) sig_numbers

-- the thread ended
unfoldable pub gone_line : Report → List ℕ
gone_line r = if r.gone then line (codes "gone") (r.tid ∷ r.gone_value ∷ []) else []

-- whether a waiting thread was answered
abbrev pub is_done : Report → ℕ → Bool
is_done r t = not (bit_and r.done (2 ^ (t - 1)) == 0)

-- what it was answered: an error number and a value
abbrev pub answer_to : Report → ℕ → ℕ × ℕ
answer_to r t = slice_index_or r.values (t - 1) (0, 0)

-- a waiting thread was answered
unfoldable pub done_line : Report → ℕ → List ℕ
done_line r t = if is_done r t then line (codes "done") (t ∷ (answer_to r t).0 ∷ (answer_to r t).1 ∷ []) else []

-- a line for each waiting thread that was answered, by number
unfoldable pub done_lines : Report → List ℕ
done_lines r = flat_map (done_line r) tids

-- the lines of a move up to what it wrote; the bytes of an out line are those of the memory
abbrev pub first_lines : Report → List ℕ → List ℕ
first_lines r memory = head_line r.tid r.head ++ alarm_line r ++ out_line r memory

-- what it took and what it dropped
abbrev pub signal_lines : Report → List ℕ
signal_lines r = took_line r ++ count_lines (codes "drop") r.drops

-- who ended and who was answered
abbrev pub thread_lines : Report → List ℕ
thread_lines r = gone_line r ++ done_lines r

-- the lines of one move, in their order
unfoldable pub lines : Report → List ℕ → List ℕ
lines r memory = first_lines r memory ++ (signal_lines r ++ thread_lines r)

-- the line before an instruction of another thread than the last
unfoldable pub run_line : ℕ → List ℕ
run_line t = line (codes "run") (t ∷ [])

-- the last line names the ending
unfoldable pub end_line : Ending → List ℕ
end_line (ExitWith value) = line (codes "end exit") (value ∷ [])
end_line (Killed sig) = line (codes "end killed") (sig ∷ [])
end_line Idle = codes "end idle\n"
end_line Budget = codes "end budget\n"

-- the end of a trace: what still pends, by signal, and the ending
unfoldable pub end_lines : List ℕ → Ending → List ℕ
end_lines left ending = count_lines (codes "left") left ++ end_line ending
