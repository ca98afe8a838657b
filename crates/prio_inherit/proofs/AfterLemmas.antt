-- What a caller knows after a change, where stored priorities were effective before it.
use Rattle.std.proofs.Common.{◌≡◌, ℕ, refl, inl, inr, ◌≤◌, arith, Option, None}
use Rattle.thread_base.specs.Maps.{put}
use Rattle.thread_base.proofs.MapLemmas.{put_same, put-put, put_got}
use Rattle.prio_inherit.specs.Priorities.{AreEffective, WereEffectiveBeforeRaise, WereEffectiveBeforeLower}

module _ (own : ℕ → ℕ) (edge : ℕ → Option ℕ) (prio : ℕ → ℕ) (t : ℕ) (right : AreEffective own edge prio) where
  own_back : (p : ℕ) → AreEffective (put (put own t p) t (own t)) (put edge t (edge t)) prio
  own_back p = rw (put-put, put_got own t, put_got edge t) right

  edge_back : (to : Option ℕ) → AreEffective (put own t (own t)) (put (put edge t to) t (edge t)) prio
  edge_back to = rw (put-put, put_got own t, put_got edge t) right

  -- after a thread's own priority was raised
  pub own_raised : (p : ℕ) → own t ≤ p → WereEffectiveBeforeRaise (put own t p) edge prio t
  own_raised p higher = record {
    own_before = own t;
    edge_before = edge t;
    raised = (let e = put_same own t p in omega (arith, e, higher));
    added = inl refl;
    effective = own_back p;
  }

  -- after an edge was added
  pub edge_added : (to : Option ℕ) → edge t ≡ None → WereEffectiveBeforeRaise own (put edge t to) prio t
  edge_added to none = record {
    own_before = own t;
    edge_before = edge t;
    raised = omega arith;
    added = inr none;
    effective = edge_back to;
  }

  -- after a thread's own priority was lowered
  pub own_lowered : (p : ℕ) (old : Option ℕ) → WereEffectiveBeforeLower (put own t p) edge prio t old
  own_lowered p old = record {
    own_before = own t;
    edge_before = edge t;
    removed = inl refl;
    effective = own_back p;
  }

  -- after an edge was removed
  pub edge_removed : (to old : Option ℕ) → edge t ≡ old → WereEffectiveBeforeLower own (put edge t to) prio t old
  edge_removed to old led = record {
    own_before = own t;
    edge_before = edge t;
    removed = inr led;
    effective = edge_back to;
  }
