-- What is shown after a change of one thread, and what is kept for signals of it.
use Rattle.std.proofs.Common.{◌≡◌, ◌≢◌, ◌∙◌, ap, sym, refl, ℕ, ◌-◌, arith, Bool, true, false, not, ◌&&◌, List, [], ◌∷◌, ◌++◌, map, reverse, length, take, get_or, slice_get, Option, Some, None, is_none, is_some, cond, eqb, find}
use Rattle.std.specs.Option.{IsSome, option_map, option_or}
use Rattle.std.specs.Prelude.{◌||◌, if◌then◌else◌, nat_lt, filter}
use Rattle.std.proofs.lemmas.List.{reverse-append, map-append, length-reverse, length-map}
use Rattle.std.proofs.lemmas.Option.{slice_get-get_or}
use Rattle.thread_base.specs.Maps.{put}
use Rattle.thread_base.specs.Numbers.{IsTid, has_signal}
use Rattle.thread_base.specs.Orders.{is_in}
use Rattle.thread_base.specs.Priority.{tids}
use Rattle.thread_base.specs.Deliveries.{signals, waits_for, waiters, recipient, first_answer, own_delivery, pending_recipient, next_delivery}
use Rattle.thread_base.proofs.PriorityLemmas.{first_agree}
use Rattle.thread_base.proofs.SearchLemmas.{tids_in}
use Rattle.thread_base.proofs.MapLemmas.{put_is, put_same, put_other, put-put, put_comm, put_got, map_put}
use Rattle.rv_exec.specs.declared.Regs.{Regs}
use Rattle.thread_table.specs.Rows.{rows, free_number, put_found}
use Rattle.thread_table.specs.declared.Row.{Row}
use Rattle.context_frames.specs.Contexts.{stack_of, top_of, below_top}
use Rattle.context_frames.specs.declared.Frame.{Frame as KeptFrame}
use Rattle.context_frames.specs.declared.Saved.{Saved}
use Rattle.thread_signals.specs.SignalState.{state_of, next_in, free_in as free_by}
use Rattle.time_queue.specs.Deadlines.{deadlines as deadlines_of, has_come as is_over}
use Rattle.posix_model.specs.State.{Thread, Registers, Frame, no_thread, is_absent, target, wait_of, set_at, deadline_by}
use Rattle.posix_model.specs.Arrivals.{has_come}
use Rattle.posix_model.specs.Deliveries.{may_take}
use Rattle.posix_model.specs.declared.Wait.{Wait}
use Rattle.kernel_state.specs.Records.{RecordsState, context_of, frame_of, frames_of, activities_of, contexts_of, masks_in, frames_in, threads_in, top_kind, next_signal, free_in, main_row, no_activity, first_threads, pending_in, has_thread, AreCached, standing_of, thread_by, thread_of, threads_of}
use Rattle.kernel_state.specs.declared.activity.Activity.{Activity}

-- ---- stacks of frames

-- a frame more
pub frames_pushed : (stack : List KeptFrame) (f : KeptFrame) → frames_of (stack ++ f ∷ []) ≡ frame_of f ∷ frames_of stack
unfolding frames_of
frames_pushed stack f = ap reverse (map-append frame_of stack (f ∷ [])) ∙ reverse-append (map frame_of stack) (frame_of f ∷ [])

pub frames_none : frames_of [] ≡ []
unfolding frames_of
frames_none = refl

pub depth_of : (stack : List KeptFrame) → length stack ≡ length (frames_of stack)
unfolding frames_of
depth_of stack = sym (length-reverse (map frame_of stack) ∙ length-map stack frame_of)

-- a list that is not empty is all but its last member, and that
split_last : (d f : KeptFrame) (stack : List KeptFrame) → f ∷ stack ≡ take (length stack) (f ∷ stack) ++ get_or (f ∷ stack) (length stack) d ∷ []
split_last d f [] = refl
split_last d f (g ∷ stack) = ap (λ xs. f ∷ xs) (split_last d g stack)

-- a stack is what is below its top, and its top
split_top : (f : KeptFrame) (stack : List KeptFrame) → (top : KeptFrame) × (top_of (f ∷ stack) ≡ Some top) × (f ∷ stack ≡ below_top (f ∷ stack) ++ top ∷ [])
split_top f stack =
    let last : length (f ∷ stack) - 1 ≡ length stack = omega arith in (
      get_or (f ∷ stack) (length stack) f,
      ap (slice_get (f ∷ stack)) last ∙ slice_get-get_or (f ∷ stack) (length stack) f (omega arith),
      split_last f f stack ∙ ap (λ n. take n (f ∷ stack) ++ get_or (f ∷ stack) (length stack) f ∷ []) (sym last),
    )

-- the frames of a stack by its top
pub frames_below : (stack : List KeptFrame) (top : KeptFrame) → top_of stack ≡ Some top → frames_of stack ≡ frame_of top ∷ frames_of (below_top stack)
frames_below [] top e = let h : None ≡ Some top = e in absurd (cc)
frames_below (f ∷ stack) top e =
    let parts = split_top f stack in
    let same : parts.0 ≡ top = (let h : Some parts.0 ≡ Some top = sym parts.1 ∙ e in cc) in
    ap frames_of parts.2 ∙ frames_pushed (below_top (f ∷ stack)) parts.0 ∙ ap (λ x. frame_of x ∷ frames_of (below_top (f ∷ stack))) same

pub frames_bare : (stack : List KeptFrame) → top_of stack ≡ None → frames_of stack ≡ []
unfolding frames_of
frames_bare [] e = refl
frames_bare (f ∷ stack) e = let parts = split_top f stack in absurd (let h : Some parts.0 ≡ None = sym parts.1 ∙ e in cc)

-- ---- rows

here_by : (ended : Option ℕ) (wait : Option Wait) → is_absent (standing_of ended wait) ≡ false
here_by (Some value) wait = refl
here_by None (Some wait) = refl
here_by None None = refl

-- there is a row exactly where there is a thread
pub row_absent : (o : Option Row) (activity : Activity) (mask : ℕ) (frames : List Frame) (regs : Registers) → is_absent (thread_of o activity mask frames regs).standing ≡ is_none o
row_absent None activity mask frames regs = refl
row_absent (Some row) activity mask frames regs = here_by row.ended activity.wait

there_row : (o : Option Row) (activity : Activity) (mask : ℕ) (frames : List Frame) (regs : Registers) → not (is_absent (thread_of o activity mask frames regs).standing) ≡ true
    → (row : Row) × (o ≡ Some row)
there_row None activity mask frames regs h = let e : false ≡ true = h in absurd (cc)
there_row (Some row) activity mask frames regs h = (row, refl)

pub row_there : (r : RecordsState) (t : ℕ) → has_thread r t ≡ true → (row : Row) × (rows r.rows t ≡ Some row)
unfolding threads_in
row_there r t h = there_row (rows r.rows t) (activities_of r.activities t) (masks_in r t) (frames_in r t) (contexts_of r t) h

pub is_row : (r : RecordsState) (t : ℕ) → has_thread r t ≡ true → IsSome (rows r.rows t)
is_row r t h = ap is_some (row_there r t h).1

-- the frames of a thread that is there
pub frames_there : (r : RecordsState) (t : ℕ) → has_thread r t ≡ true → (threads_in r t).frames ≡ frames_in r t
unfolding threads_in
frames_there r t h = ap (λ o. (thread_of o (activities_of r.activities t) (masks_in r t) (frames_in r t) (contexts_of r t)).frames) (row_there r t h).1

-- ---- contexts

pub in_place : (m : ℕ → Registers) (placed t : ℕ) (r : Registers) → t ≡ placed → r ≡ put m placed r t
in_place m placed t r e = sym (ap (put m placed r) e ∙ put_same m placed r)

pub elsewhere : (saved : ℕ → Saved) (placed t : ℕ) (r : Registers) → t ≢ placed → context_of (saved t) ≡ put (λ u. context_of (saved u)) placed r t
elsewhere saved placed t r ne = sym (put_other (λ u. context_of (saved u)) placed r t ne)

-- the contexts after a change of the one in place, and of another
pub placed_anew : (m : ℕ → Registers) (placed t : ℕ) (r q : Registers) → t ≡ placed → put m placed q ≡ put (put m placed r) t q
placed_anew m placed t r q e = sym (ap (λ u. put (put m placed r) u q) e ∙ put-put m placed r q)

pub saved_contexts : (saved : ℕ → Saved) (t : ℕ) (s : Saved) → (λ u. context_of (put saved t s u)) ≡ put (λ u. context_of (saved u)) t (context_of s)
saved_contexts saved t s =
    put_is (λ u. context_of (saved u)) (λ u. context_of (put saved t s u)) t (context_of s)
    (ap context_of (put_same saved t s))
    (λ u ne. ap context_of (put_other saved t s u ne))

pub saved_anew : (saved after : ℕ → Saved) (placed t : ℕ) (r : Registers) (s : Saved) → t ≢ placed → after ≡ put saved t s
    → put (λ u. context_of (after u)) placed r ≡ put (put (λ u. context_of (saved u)) placed r) t (context_of s)
saved_anew saved after placed t r s ne e =
    ap (λ (f : ℕ → Saved). put (λ u. context_of (f u)) placed r) e
    ∙ ap (λ (m : ℕ → Registers). put m placed r) (saved_contexts saved t s)
    ∙ put_comm (λ u. context_of (saved u)) t placed (context_of s) r ne

-- another context is put in place, and the one that was there is saved
pub moved_contexts : (saved after : ℕ → Saved) (placed t : ℕ) (old r : Registers) (s : Saved) → after ≡ put saved placed s → context_of s ≡ old
    → r ≡ put (λ u. context_of (saved u)) placed old t → put (λ u. context_of (after u)) t r ≡ put (λ u. context_of (saved u)) placed old
moved_contexts saved after placed t old r s e same is =
    let map : ℕ → Registers = λ u. context_of (saved u) in
    ap (λ (f : ℕ → Saved). put (λ u. context_of (f u)) t r) e
    ∙ ap (λ (m : ℕ → Registers). put m t r) (saved_contexts saved placed s ∙ ap (put map placed) same)
    ∙ ap (put (put map placed old) t) is
    ∙ put_got (put map placed old) t

-- ---- all threads

-- all that is kept of a thread changes
pub threads_put : (rows : ℕ → Option Row) (activities : ℕ → Activity) (masks : ℕ → ℕ) (frames : ℕ → List Frame) (contexts : ℕ → Registers)
    (t : ℕ) (row : Row) (activity : Activity) (mask : ℕ) (fs : List Frame) (regs : Registers)
    → threads_of (put rows t (Some row)) (put activities t activity) (put masks t mask) (put frames t fs) (put contexts t regs)
    ≡ put (threads_of rows activities masks frames contexts) t (thread_by row activity mask fs regs)
threads_put rows activities masks frames contexts t row activity mask fs regs =
    put_is (threads_of rows activities masks frames contexts)
    (threads_of (put rows t (Some row)) (put activities t activity) (put masks t mask) (put frames t fs) (put contexts t regs)) t (thread_by row activity mask fs regs)
    (λ i. thread_of (put_same rows t (Some row) i) (put_same activities t activity i) (put_same masks t mask i) (put_same frames t fs i) (put_same contexts t regs i))
    (λ u ne i. thread_of (put_other rows t (Some row) u ne i) (put_other activities t activity u ne i) (put_other masks t mask u ne i) (put_other frames t fs u ne i) (put_other contexts t regs u ne i))

-- a thread's row goes
threads_freed : (rows : ℕ → Option Row) (activities : ℕ → Activity) (masks : ℕ → ℕ) (frames : ℕ → List Frame) (contexts : ℕ → Registers) (t : ℕ)
    → threads_of (put rows t None) activities masks frames contexts ≡ put (threads_of rows activities masks frames contexts) t no_thread
threads_freed rows activities masks frames contexts t =
    put_is (threads_of rows activities masks frames contexts) (threads_of (put rows t None) activities masks frames contexts) t no_thread
    (ap (λ o. thread_of o (activities t) (masks t) (frames t) (contexts t)) (put_same rows t None))
    (λ u ne. ap (λ o. thread_of o (activities u) (masks u) (frames u) (contexts u)) (put_other rows t None u ne))

-- one thread is kept otherwise
module _ (r q : RecordsState) (t : ℕ) (row : Row) (activity : Activity) (mask : ℕ) (fs : List Frame) (regs : Registers) where
  pub changed : rows q.rows ≡ put (rows r.rows) t (Some row) → activities_of q.activities ≡ put (activities_of r.activities) t activity
      → masks_in q ≡ put (masks_in r) t mask → frames_in q ≡ put (frames_in r) t fs → contexts_of q ≡ put (contexts_of r) t regs
      → threads_in q ≡ put (threads_in r) t (thread_by row activity mask fs regs)
  unfolding threads_in
  changed a b c d e =
      let moved : threads_of (rows q.rows) (activities_of q.activities) (masks_in q) (frames_in q) (contexts_of q)
      ≡ threads_of (put (rows r.rows) t (Some row)) (put (activities_of r.activities) t activity) (put (masks_in r) t mask) (put (frames_in r) t fs) (put (contexts_of r) t regs) =
      λ i. threads_of (a i) (b i) (c i) (d i) (e i) in
      moved ∙ threads_put (rows r.rows) (activities_of r.activities) (masks_in r) (frames_in r) (contexts_of r) t row activity mask fs regs

-- one thread is gone
pub gone : (r q : RecordsState) (t : ℕ) → rows q.rows ≡ put (rows r.rows) t None → activities_of q.activities ≡ activities_of r.activities
    → masks_in q ≡ masks_in r → frames_in q ≡ frames_in r → contexts_of q ≡ contexts_of r → threads_in q ≡ put (threads_in r) t no_thread
unfolding threads_in
gone r q t a b c d e =
    let moved : threads_of (rows q.rows) (activities_of q.activities) (masks_in q) (frames_in q) (contexts_of q)
    ≡ threads_of (put (rows r.rows) t None) (activities_of r.activities) (masks_in r) (frames_in r) (contexts_of r) =
    λ i. threads_of (a i) (b i) (c i) (d i) (e i) in
    moved ∙ threads_freed (rows r.rows) (activities_of r.activities) (masks_in r) (frames_in r) (contexts_of r) t

-- the threads are the same
pub alike : (r q : RecordsState) → rows q.rows ≡ rows r.rows → activities_of q.activities ≡ activities_of r.activities
    → masks_in q ≡ masks_in r → frames_in q ≡ frames_in r → contexts_of q ≡ contexts_of r → threads_in q ≡ threads_in r
unfolding threads_in
alike r q a b c d e = λ i. threads_of (a i) (b i) (c i) (d i) (e i)

-- ---- what is kept for signals

-- a map with one value more is right where the others were and this one is
right_put : {A : Type 0} (read : Thread → A) (m : ℕ → A) (threads : ℕ → Thread) (t : ℕ) (thread : Thread) → ((u : ℕ) → m u ≡ read (threads u))
    → (u : ℕ) → put m t (read thread) u ≡ read (put threads t thread u)
right_put read m threads t thread each u =
    ap (λ (f : ℕ → _). put f t (read thread) u) (λ i v. each v i)
    ∙ ap (λ (f : ℕ → _). f u) (sym (put_is (λ v. read (threads v)) (λ v. read (put threads t thread v)) t (read thread)
    (ap read (put_same threads t thread)) (λ v ne. ap read (put_other threads t thread v ne))))

pub cached_put : (r q : RecordsState) (t : ℕ) (thread : Thread) → AreCached r → threads_in q ≡ put (threads_in r) t thread
    → (state_of q.signals).waits ≡ put (state_of r.signals).waits t (set_at (target thread.standing))
    → (state_of q.signals).is_open ≡ put (state_of r.signals).is_open t (may_take thread)
    → deadlines_of q.deadlines ≡ put (deadlines_of r.deadlines) t (deadline_by (wait_of thread.standing)) → AreCached q
cached_put r q t thread right threads waits is_open deadlines = record {
  waits = λ u. ap (λ (f : ℕ → Option ℕ). f u) waits ∙ right_put (λ (x : Thread). set_at (target x.standing)) (state_of r.signals).waits (threads_in r) t thread right.waits u
      ∙ ap (λ (f : ℕ → Thread). set_at (target (f u).standing)) (sym threads);
  is_open = λ u. ap (λ (f : ℕ → Bool). f u) is_open ∙ right_put may_take (state_of r.signals).is_open (threads_in r) t thread right.is_open u
      ∙ ap (λ (f : ℕ → Thread). may_take (f u)) (sym threads);
  deadlines = λ u. ap (λ (f : ℕ → Option ℕ). f u) deadlines ∙ right_put (λ (x : Thread). deadline_by (wait_of x.standing)) (deadlines_of r.deadlines) (threads_in r) t thread right.deadlines u
      ∙ ap (λ (f : ℕ → Thread). deadline_by (wait_of (f u).standing)) (sym threads);
}

-- neither changes
pub cached_still : (r q : RecordsState) → AreCached r → threads_in q ≡ threads_in r → (state_of q.signals).waits ≡ (state_of r.signals).waits
    → (state_of q.signals).is_open ≡ (state_of r.signals).is_open → deadlines_of q.deadlines ≡ deadlines_of r.deadlines → AreCached q
cached_still r q right threads waits is_open deadlines = record {
  waits = λ u. ap (λ (f : ℕ → Option ℕ). f u) waits ∙ right.waits u ∙ ap (λ (f : ℕ → Thread). set_at (target (f u).standing)) (sym threads);
  is_open = λ u. ap (λ (f : ℕ → Bool). f u) is_open ∙ right.is_open u ∙ ap (λ (f : ℕ → Thread). may_take (f u)) (sym threads);
  deadlines = λ u. ap (λ (f : ℕ → Option ℕ). f u) deadlines ∙ right.deadlines u ∙ ap (λ (f : ℕ → Thread). deadline_by (wait_of (f u).standing)) (sym threads);
}

-- ---- one thread as it is kept

pub found_none : (r : RecordsState) (t : ℕ) → rows r.rows t ≡ None → false ≡ has_thread r t
unfolding threads_in
found_none r t e = ap (λ o. not (is_absent (thread_of o (activities_of r.activities t) (masks_in r t) (frames_in r t) (contexts_of r t)).standing)) (sym e)

pub found_some : (r : RecordsState) (t : ℕ) (row : Row) → rows r.rows t ≡ Some row → true ≡ has_thread r t
unfolding threads_in
found_some r t row e =
    sym (ap not (row_absent (Some row) (activities_of r.activities t) (masks_in r t) (frames_in r t) (contexts_of r t)))
    ∙ ap (λ o. not (is_absent (thread_of o (activities_of r.activities t) (masks_in r t) (frames_in r t) (contexts_of r t)).standing)) (sym e)

pub found_is : (r : RecordsState) (t : ℕ) (row : Row) (activity : Activity) (mask : ℕ) (regs : Registers) → rows r.rows t ≡ Some row
    → activity ≡ activities_of r.activities t → mask ≡ masks_in r t → regs ≡ contexts_of r t → thread_by row activity mask (threads_in r t).frames regs ≡ threads_in r t
unfolding threads_in
found_is r t row activity mask regs is a m c =
    (λ i. thread_by row (a i) (m i) (thread_of (is i) (activities_of r.activities t) (masks_in r t) (frames_in r t) (contexts_of r t)).frames (c i))
    ∙ ap (λ o. thread_of o (activities_of r.activities t) (masks_in r t) (frames_in r t) (contexts_of r t)) (sym is)

-- ---- frames that stay, and that change

pub frames_same : (r q : RecordsState) (t : ℕ) → stack_of q.frames ≡ stack_of r.frames → frames_in q ≡ put (frames_in r) t (frames_in r t)
frames_same r q t e = ap {B = ℕ → List Frame} (λ (f : ℕ → List KeptFrame) u. frames_of (f u)) e ∙ sym (put_got (frames_in r) t)

pub frames_put : (r q : RecordsState) (t : ℕ) (stack : List KeptFrame) → stack_of q.frames ≡ put (stack_of r.frames) t stack → frames_in q ≡ put (frames_in r) t (frames_of stack)
frames_put r q t stack e = ap {B = ℕ → List Frame} (λ (f : ℕ → List KeptFrame) u. frames_of (f u)) e ∙ map_put frames_of (stack_of r.frames) t stack

-- a map that has a value already
pub kept_at : {A : Type 0} (m : ℕ → A) (t : ℕ) (x : A) → m t ≡ x → m ≡ put m t x
kept_at m t x e = sym (ap (put m t) (sym e) ∙ put_got m t)

-- frames that were pushed, where they are 32 at most
pub depth_same : (stack : List KeptFrame) (old : ℕ → List KeptFrame) (new : ℕ → List KeptFrame) (t : ℕ) → new ≡ old → stack ≡ new t → length stack ≡ length (frames_of (old t))
depth_same stack old new t e is = depth_of stack ∙ ap (λ xs. length (frames_of xs)) (is ∙ ap (λ (f : ℕ → List KeptFrame). f t) e)

-- what the last frame is for
pub top_is : (stack : List KeptFrame) → option_map (λ f. f.kind) (top_of stack) ≡ top_kind (frames_of stack)
top_is [] = ap top_kind (sym frames_none)
top_is (f ∷ stack) =
    let parts = split_top f stack in
    ap (option_map (λ (x : KeptFrame). x.kind)) parts.1 ∙ ap top_kind (sym (frames_below (f ∷ stack) parts.0 parts.1))

-- ---- the next delivery

in_filtered : (p : ℕ → Bool) (xs : List ℕ) (x : ℕ) → is_in x (filter p xs) ≡ true → is_in x xs ≡ true
in_filtered p [] x h = h
in_filtered p (y ∷ ys) x h = by (p y) (in_filtered p ys x) h
  where
    either : (b : Bool) → is_in x ys ≡ true → b || is_in x ys ≡ true
    either true e = refl
    either false e = e

    same : (b : Bool) → (is_in x (filter p ys) ≡ true → is_in x ys ≡ true) → b || is_in x (filter p ys) ≡ true → b || is_in x ys ≡ true
    same true f e = refl
    same false f e = f e

    by : (b : Bool) → (is_in x (filter p ys) ≡ true → is_in x ys ≡ true) → is_in x (cond b (y ∷ filter p ys) (filter p ys)) ≡ true → is_in x (y ∷ ys) ≡ true
    by true f e = same (eqb x y) f e
    by false f e = either (eqb x y) (f e)

-- keys that agree on all threads choose alike
recipient_agree : (waits : ℕ → Option ℕ) (free : ℕ → ℕ → Bool) (eff key : ℕ → ℕ) (sig : ℕ) → ((t : ℕ) → IsTid t → eff t ≡ key t)
    → recipient waits free eff sig ≡ recipient waits free key sig
recipient_agree waits free eff key sig same =
    ap (λ o. option_or o (find (λ t. free t sig) tids))
    (first_agree eff key (waiters waits sig) (λ x h. same x (tids_in x (in_filtered (λ t. waits_for (waits t) sig) tids x h))))

pub agree_next : (waits : ℕ → Option ℕ) (free : ℕ → ℕ → Bool) (counts : ℕ → ℕ → ℕ) (eff key : ℕ → ℕ) → ((t : ℕ) → IsTid t → eff t ≡ key t)
    → next_delivery waits free counts eff ≡ next_delivery waits free counts key
agree_next waits free counts eff key same =
    let each : (sig : ℕ) → option_map (λ t. (t, sig, true)) (pending_recipient waits free counts eff sig) ≡ option_map (λ t. (t, sig, true)) (pending_recipient waits free counts key sig) =
    λ sig. ap (λ (o : Option ℕ). option_map (λ t. (t, sig, true)) (if nat_lt 0 (counts 0 sig) then o else None)) (recipient_agree waits free eff key sig same) in
    λ i. option_or (own_delivery waits free counts) (first_answer (λ sig. each sig i) signals)

-- who is free by what is kept, and by the thread
free_row : (o : Option Row) (activity : Activity) (mask sig : ℕ) (frames : List Frame) (regs : Registers) (b : Bool) → b ≡ may_take (thread_of o activity mask frames regs)
    → (b && not (has_signal mask sig)) ≡ (may_take (thread_of o activity mask frames regs) && not (has_signal (thread_of o activity mask frames regs).mask sig))
free_row None activity mask sig frames regs b e = ap (λ x. x && not (has_signal mask sig)) e
free_row (Some row) activity mask sig frames regs b e = ap (λ x. x && not (has_signal mask sig)) e

free_same : (r : RecordsState) → AreCached r → (t sig : ℕ) → free_by (state_of r.signals) t sig ≡ free_in r t sig
unfolding threads_in
free_same r right t sig =
    free_row (rows r.rows t) (activities_of r.activities t) (masks_in r t) sig (frames_in r t) (contexts_of r t) ((state_of r.signals).is_open t) (right.is_open t)

-- the next delivery by what is kept is that of the threads
pub next_is : (r : RecordsState) (eff key : ℕ → ℕ) → AreCached r → ((t : ℕ) → IsTid t → eff t ≡ key t) → next_in (state_of r.signals) eff ≡ next_signal r key
unfolding pending_in
next_is r eff key right same =
    (λ i. next_delivery (λ t. right.waits t i) (λ t sig. free_same r right t sig i) (state_of r.signals).counts eff)
    ∙ agree_next (λ t. set_at (target (threads_in r t).standing)) (free_in r) (state_of r.signals).counts eff key same

-- ---- whose wait ends by itself

over_come : (now : ℕ) (o : Option ℕ) → is_over now o ≡ has_come now o
over_come now None = refl
over_come now (Some until) = refl

-- the threads by whose kept deadlines a time has come are those whose waits end then
pub due_is : (r : RecordsState) (now : ℕ) (ts : List ℕ) → AreCached r
    → find (λ t. is_over now (deadlines_of r.deadlines t)) ts ≡ find (λ t. has_come now (deadline_by (wait_of (threads_in r t).standing))) ts
due_is r now ts right =
    let each : (t : ℕ) → is_over now (deadlines_of r.deadlines t) ≡ has_come now (deadline_by (wait_of (threads_in r t).standing)) =
    λ t. over_come now (deadlines_of r.deadlines t) ∙ ap (has_come now) (right.deadlines t) in
    λ i. find (λ t. each t i) ts

-- ---- an instruction of the thread in place

by_row : (o : Option Row) (activity : Activity) (mask : ℕ) (frames : List Frame) (c d : Registers)
    → (set_at (target (thread_of o activity mask frames c).standing) ≡ set_at (target (thread_of o activity mask frames d).standing))
    × (may_take (thread_of o activity mask frames c) ≡ may_take (thread_of o activity mask frames d))
    × (deadline_by (wait_of (thread_of o activity mask frames c).standing) ≡ deadline_by (wait_of (thread_of o activity mask frames d).standing))
by_row None activity mask frames c d = (refl, refl, refl)
by_row (Some row) activity mask frames c d = (refl, refl, refl)

-- other registers change nothing of what is kept apart
pub cached_executed : (r : RecordsState) (regs : Regs) → AreCached r → AreCached (record r { regs = regs })
unfolding threads_in
cached_executed r regs right =
    record { waits = λ t. right.waits t ∙ (same t).0; is_open = λ t. right.is_open t ∙ (same t).1; deadlines = λ t. right.deadlines t ∙ (same t).2 }
  where
    same : (t : ℕ) → (set_at (target (threads_in r t).standing) ≡ set_at (target (threads_in (record r { regs = regs }) t).standing))
        × (may_take (threads_in r t) ≡ may_take (threads_in (record r { regs = regs }) t))
        × (deadline_by (wait_of (threads_in r t).standing) ≡ deadline_by (wait_of (threads_in (record r { regs = regs }) t).standing))
    same t = by_row (rows r.rows t) (activities_of r.activities t) (masks_in r t) (frames_in r t) (contexts_of r t) (contexts_of (record r { regs = regs }) t)

-- a stack without a top stays
pub stack_bare : (r q : RecordsState) (t : ℕ) → stack_of r.frames t ≡ [] → stack_of q.frames ≡ put (stack_of r.frames) t (below_top (stack_of r.frames t)) → frames_in q ≡ frames_in r
stack_bare r q t bare e =
    ap {B = ℕ → List Frame} (λ (f : ℕ → List KeptFrame) u. frames_of (f u)) (e ∙ ap (λ xs. put (stack_of r.frames) t (below_top xs)) bare ∙ ap (put (stack_of r.frames) t) (sym bare) ∙ put_got (stack_of r.frames) t)

-- ---- the start

-- the first number is free where none is in use
first_free : free_number (λ t. None) ≡ Some 1
unfolding tids
first_free = refl

pub first_made : (map none : ℕ → Option Row) (row : Row) (result : Option ℕ) → none ≡ (λ t. None) → row ≡ main_row → result ≡ free_number none → map ≡ put_found none result row
    → map ≡ put (λ t. None) 1 (Some main_row)
first_made map none row result e f g h =
    h
    ∙ ap (λ o. put_found none o row) (g ∙ ap free_number e ∙ first_free)
    ∙ ap (λ (m : ℕ → Option Row). put m 1 (Some row)) e
    ∙ ap (λ (x : Row). put (λ t. None) 1 (Some x)) f

pub first_shown : (r : RecordsState) (regs : Registers) → rows r.rows ≡ put (λ t. None) 1 (Some main_row) → activities_of r.activities ≡ (λ t. no_activity) → masks_in r 1 ≡ 0
    → frames_in r 1 ≡ [] → contexts_of r 1 ≡ regs → threads_in r ≡ first_threads regs
unfolding threads_in
first_shown r regs a b m f c =
    let at_one : rows r.rows 1 ≡ Some main_row = ap (λ (map : ℕ → Option Row). map 1) a ∙ put_same (λ t. None) 1 (Some main_row) in
    let at_other : (u : ℕ) → u ≢ 1 → rows r.rows u ≡ None = λ u ne. ap (λ (map : ℕ → Option Row). map u) a ∙ put_other (λ t. None) 1 (Some main_row) u ne in
    put_is (λ t. no_thread) (threads_of (rows r.rows) (activities_of r.activities) (masks_in r) (frames_in r) (contexts_of r)) 1 (thread_by main_row no_activity 0 [] regs)
    (λ i. thread_of (at_one i) (b i 1) (m i) (f i) (c i))
    (λ u ne i. thread_of (at_other u ne i) (activities_of r.activities u) (masks_in r u) (frames_in r u) (contexts_of r u))

pub first_cached : (r : RecordsState) (regs : Registers) → threads_in r ≡ first_threads regs → (state_of r.signals).waits ≡ (λ t. None) → (state_of r.signals).is_open ≡ put (λ t. false) 1 true
    → deadlines_of r.deadlines ≡ (λ t. None) → AreCached r
first_cached r regs threads waits opens deadlines =
    let none : ℕ → Thread = λ t. no_thread in
    let main : Thread = thread_by main_row no_activity 0 [] regs in
    record {
      waits = λ u.
          ap (λ (f : ℕ → Option ℕ). f u) waits
          ∙ sym (ap (λ (f : ℕ → Option ℕ). f u) (put_got (λ t. None) 1))
          ∙ right_put (λ (x : Thread). set_at (target x.standing)) (λ t. None) none 1 main (λ v. refl) u
          ∙ ap (λ (f : ℕ → Thread). set_at (target (f u).standing)) (sym threads);
      is_open = λ u.
          ap (λ (f : ℕ → Bool). f u) opens ∙ right_put may_take (λ t. false) none 1 main (λ v. refl) u ∙ ap (λ (f : ℕ → Thread). may_take (f u)) (sym threads);
      deadlines = λ u.
          ap (λ (f : ℕ → Option ℕ). f u) deadlines
          ∙ sym (ap (λ (f : ℕ → Option ℕ). f u) (put_got (λ t. None) 1))
          ∙ right_put (λ (x : Thread). deadline_by (wait_of x.standing)) (λ t. None) none 1 main (λ v. refl) u
          ∙ ap (λ (f : ℕ → Thread). deadline_by (wait_of (f u).standing)) (sym threads);
    }
