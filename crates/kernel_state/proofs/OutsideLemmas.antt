-- What is kept where entries are presented, gathered and drained.
use Rattle.std.proofs.Common.{◌≡◌, ◌∙◌, sym, ap, arith, ◌+◌, List, [], ◌∷◌, Some, None, drop}
use Rattle.std.specs.Prelude.{slice_get}
use Rattle.std.proofs.lemmas.Option.{same_Some}
use Rattle.unix_process.specs.declared.UnixEvent.{UnixEvent}
use Rattle.unix_process.specs.declared.Taken.{Taken}
use Rattle.unix_process.specs.Merging.{merged, count_of}
use Rattle.unix_process.proofs.MergingLemmas.{counts_add_up}
use Rattle.kernel_state.specs.Outside.{gathered}

-- all that is counted before stays counted
pub gathered_counts : (log ts : List Taken) (e : UnixEvent) → count_of e (gathered log ts) ≡ count_of e log + count_of e ts
gathered_counts log [] e = omega arith
gathered_counts log (t ∷ ts) e =
    let one = counts_add_up t log e in
    let others = gathered_counts (merged t log) ts e in
    others ∙ (let all = one in omega (arith, all))

-- one event of those that pend goes to the log
pub moved_on : (log pending : List Taken) (item : Taken) → slice_get pending 0 ≡ Some item → gathered (merged item log) (drop 1 pending) ≡ gathered log pending
moved_on log [] item h = let e : None ≡ Some item = h in absurd (cc)
moved_on log (t ∷ ts) item h = ap (λ u. gathered (merged u log) ts) (sym (same_Some t item h))

pub counted_on : (log pending : List Taken) (item : Taken) (e : UnixEvent) → slice_get pending 0 ≡ Some item
    → count_of e (merged item log) + count_of e (drop 1 pending) ≡ count_of e log + count_of e pending
counted_on log [] item e h = let x : None ≡ Some item = h in absurd (cc)
counted_on log (t ∷ ts) item e h =
    let one = counts_add_up t log e in
    ap (λ u. count_of e (merged u log) + count_of e ts) (sym (same_Some t item h)) ∙ omega (arith, one)
