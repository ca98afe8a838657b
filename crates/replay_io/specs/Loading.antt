-- How a load ended (this project's own).
use Rattle.std.specs.Prelude.{Bool, true, false, Result, Ok, Err}
use Rattle.replay_io.specs.declared.files.LoadRefusal.{LoadRefusal}
use Rattle.replay_io.specs.declared.files.LoadRefusal.TheVariants.{Failed, NoMemory}

-- whether a load failed, and not for want of memory
abbrev pub is_failed : {T : Type 0} → Result T LoadRefusal → Bool
is_failed (Ok value) = false
is_failed (Err Failed) = true
is_failed (Err NoMemory) = false
