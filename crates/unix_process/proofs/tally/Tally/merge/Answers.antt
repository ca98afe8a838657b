use Rattle.std.proofs.Common.{◌≡◌, ◌<◌, ◌≤◌, ◌+◌, ◌^◌, ◌++◌, ◌∷◌, [], ◌∙◌, ℕ, List, Some, None, ap, sym, subst, arith, lit<, false, get_or, set, length, length-set}
use Rattle.arrayvec.proofs.ArrayVecLemmas.{items-with_items}
use Rattle.std.specs.List.{position, refill}
use Rattle.unix_process.specs.declared.Taken.{Taken}
use Rattle.unix_process.specs.Merging.{same_event, count_of, merged, is_among, IsTally, IsCounted}
use Rattle.unix_process.proofs.MergingLemmas.{absent, merged_behind, raised, raised_fits, raised_is, room, stays_counted, stays_tally}
use Rattle.unix_process.proofs.tally.Tally.merge.Goals as goal

-- the slots that are lent are the value, and the event stands at a place of it
record Stands (item : Taken) (lent slots value : List Taken) (i : ℕ) : Type 0 where
  all : lent ≡ slots
  shown : slots ≡ value
  found : position (λ t. same_event t.event item.event) value ≡ Some i

fits : (item d : Taken) (lent slots value : List Taken) (i : ℕ) → Stands item lent slots value i → count_of item.event value + item.count < 2 ^ 32 → (get_or lent i d).count + item.count < 2 ^ 32
fits item d lent slots value i s room =
    subst (λ ts. (get_or ts i d).count + item.count < 2 ^ 32) (sym (s.all ∙ s.shown)) (raised_fits item d value i s.found room)

written : (item d : Taken) (lent slots value : List Taken) (i : ℕ) → Stands item lent slots value i → refill (length slots) slots (set lent i (raised item (get_or lent i d))) ≡ merged item slots
written item d lent slots value i s =
    subst (λ ts. refill (length slots) slots (set ts i (raised item (get_or ts i d))) ≡ merged item slots) (sym s.all)
    (items-with_items (record { items = slots }) (set slots i (raised item (get_or slots i d))) (length-set slots i (raised item (get_or slots i d)))
    ∙ raised_is item d slots i (subst (λ ts. position (λ t. same_event t.event item.event) ts ≡ Some i) (sym s.shown) s.found))

-- the event is not among the slots
new : (item : Taken) (slots value : List Taken) → slots ≡ value → position (λ t. same_event t.event item.event) value ≡ None → is_among item.event slots ≡ false
new item slots value shown found = ap (is_among item.event) shown ∙ absent item.event value found

pub overflow_add-slot : goal.overflow_add-slot
overflow_add-slot c =
    let room = fits c.args.item c.index-deref_mut-i.result c.deref_mut.result.now c.self.inside.slots.items c.args.self.now c.in-Some.i
    (record { all = c.deref_mut.ensures.value; shown = c.self.view_is; found = sym c.position.ensures ∙ c.in-Some.is })
    c.requires in
    omega arith

pub invariant_of-self : goal.invariant_of-self
invariant_of-self c =
    subst IsTally
    (sym (written c.args.item c.index-deref_mut-i.result c.deref_mut.result.now c.self.inside.slots.items c.args.self.now c.in-Some.i
    (record { all = c.deref_mut.ensures.value; shown = c.self.view_is; found = sym c.position.ensures ∙ c.in-Some.is })))
    (stays_tally c.args.item c.self.inside.slots.items c.signal-in_scope.ensures.scope c.self.invariant)

pub push-requires : goal.push-requires
push-requires c =
    let absent = new c.args.item c.self.inside.slots.items c.args.self.now c.self.view_is (sym c.position.ensures ∙ c.in-None.is) in
    (lit< tt, room c.self.inside.slots.items c.args.item.event c.self.invariant c.signal-in_scope.ensures.scope absent)

pub invariant_of-self-in-None : goal.invariant_of-self-in-None
invariant_of-self-in-None c =
    let absent = new c.args.item c.self.inside.slots.items c.args.self.now c.self.view_is (sym c.position.ensures ∙ c.in-None.is) in
    subst IsTally (sym (c.push.ensures.items ∙ sym (merged_behind c.args.item c.self.inside.slots.items absent)))
    (stays_tally c.args.item c.self.inside.slots.items c.signal-in_scope.ensures.scope c.self.invariant)

pub returns-in-Some-clause-list : goal.returns-in-Some-clause-list
returns-in-Some-clause-list c =
    written c.args.item c.index-deref_mut-i.result c.deref_mut.result.now c.self.inside.slots.items c.args.self.now c.in-Some.i
    (record { all = c.deref_mut.ensures.value; shown = c.self.view_is; found = sym c.position.ensures ∙ c.in-Some.is })
    ∙ ap (merged c.args.item) c.self.view_is

pub returns-in-None-clause-list : goal.returns-in-None-clause-list
returns-in-None-clause-list c =
    c.push.ensures.items ∙ ap (λ ts. ts ++ c.args.item ∷ []) c.self.view_is
    ∙ sym (merged_behind c.args.item c.args.self.now (absent c.args.item.event c.args.self.now (sym c.position.ensures ∙ c.in-None.is)))

pub returns-in-Some-clause-once : goal.returns-in-Some-clause-once
returns-in-Some-clause-once c = invariant_of-self c

pub returns-in-None-clause-once : goal.returns-in-None-clause-once
returns-in-None-clause-once c = invariant_of-self-in-None c

-- what is as after the merge counts as it does
counted : (item : Taken) (slots value after : List Taken) → slots ≡ value → after ≡ merged item slots → 1 ≤ item.count → IsCounted value → IsCounted after
counted item slots value after shown is more h =
    subst IsCounted (sym is) (stays_counted item slots more (subst IsCounted (sym shown) h))

pub returns-in-Some-clause-counted : goal.returns-in-Some-clause-counted
returns-in-Some-clause-counted c =
    counted c.args.item c.self.inside.slots.items c.args.self.now _ c.self.view_is
    (written c.args.item c.index-deref_mut-i.result c.deref_mut.result.now c.self.inside.slots.items c.args.self.now c.in-Some.i
    (record { all = c.deref_mut.ensures.value; shown = c.self.view_is; found = sym c.position.ensures ∙ c.in-Some.is }))

pub returns-in-None-clause-counted : goal.returns-in-None-clause-counted
returns-in-None-clause-counted c =
    let absent = new c.args.item c.self.inside.slots.items c.args.self.now c.self.view_is (sym c.position.ensures ∙ c.in-None.is) in
    counted c.args.item c.self.inside.slots.items c.args.self.now _ c.self.view_is
    (c.push.ensures.items ∙ sym (merged_behind c.args.item c.self.inside.slots.items absent))
