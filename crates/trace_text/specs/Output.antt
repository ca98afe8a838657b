-- What may be written of a report.
use Rattle.std.specs.Prelude.{ℕ, ◌<◌, List, IsTrue, length}
use Rattle.rv_exec.specs.Window.{is_inside}
use Rattle.posix_model.specs.declared.Report.{Report}

-- the bytes that a move wrote are in the window
abbrev pub IsReadable : Report → List ℕ → Type 0
IsReadable r memory = 0 < r.out_len → IsTrue (is_inside (length memory) r.out_buf r.out_len)
