-- Some moves after others, with what is told of them and their text, and the end of a run.
use Rattle.std.proofs.Common.{◌≡◌, ◌∙◌, ap, sym, refl, subst, ℕ, ◌+◌, ◌-◌, ◌<◌, ◌≤◌, List, [], ◌∷◌, ◌++◌, length, Option, Some, None, append-nil, append_assoc, length-append, inl, inr, Result, Ok, Err, true, false, arith}
use Rattle.std.specs.Result.{IsErr}
use Rattle.replay_io.specs.Writing.{WritesWhole, WritesFront}
use Rattle.replay_io.proofs.WritingLemmas.{writes_nothing, whole_then_whole, whole_then_front, front_of_more}
use Rattle.posix_model.specs.Runs.{Rules, Moment, Allowed, IsRun, Ends, make, moved, after}
use Rattle.journal_text.specs.Valid.{IsJournal}
use Rattle.posix_model.specs.Good.{IsGood}
use Rattle.posix_model.specs.Trace.{left}
use Rattle.posix_model.specs.declared.Move.{Move}
use Rattle.posix_model.specs.declared.Ending.{Ending}
use Rattle.posix_model.specs.declared.Head.{Head}
use Rattle.posix_model.specs.declared.Head.TheVariants.{Quiet}
use Rattle.posix_model.specs.declared.Report.{Report}
use Rattle.posix_model.proofs.TraceLemmas.{IsRun-append, after-append, moves_left, moves_fall, moves_few}
use Rattle.posix_model.proofs.GoodMoves.{goodness}
use Rattle.posix_model.proofs.RunLaws.{run_falls, completion, still_within}
use Rattle.trace_text.specs.Counting.{no_counts, plus, counted, counts, told_of, told_by}
use Rattle.trace_text.specs.Texts.{lines_in, switch_in, text_in, end_in, whole_in, IsWholeIn, IsTextIn}
use Rattle.trace_text.specs.declared.Mode.{Mode}
use Rattle.trace_text.specs.declared.tally.Counts.{Counts}
use Rattle.trace_text.proofs.TextLemmas.{text_in-append, text_in_none, text_in_one, no_switch_in, silent_in}
use Rattle.process_engine.specs.Engine.{Engine, owed_of, moment_of, position_of, telling_of}
use Rattle.process_engine.specs.Advancing.{MakesMove, MakesPlain, Advances, no_text, Makes, MakesSome, MakesTold, Proceeds}
use Rattle.process_engine.specs.Turns.{Completes, Goes, RunsWhole, RunsPart, RunsFront}
use Rattle.process_engine.specs.declared.Done.{Done}
use Rattle.process_engine.specs.declared.stage.Advance.{Advance}
use Rattle.process_engine.specs.declared.stage.Advance.TheVariants.{Plain, Switched, Begun, End}
use Rattle.process_engine.proofs.CountLemmas.{plus_none, none_plus, counts-append, told_nothing, all_instructions, things, few}

-- no move
pub makes_none : (rules : Rules) (now : Moment) → Makes rules now now no_counts no_text
makes_none rules now = record { moves = []; run = tt; leads = refl; tells = refl; text_is = λ mode. sym (text_in_none mode rules now) }

-- the same by other words
makes_as : {rules : Rules} {old new : Moment} (told others : Counts) (trace other : Mode → List ℕ) → Makes rules old new told trace → others ≡ told → ((mode : Mode) → other mode ≡ trace mode) → Makes rules old new others other
makes_as told others trace other m e f = record { moves = m.moves; run = m.run; leads = m.leads; tells = e ∙ m.tells; text_is = λ mode. f mode ∙ m.text_is mode }

-- some moves, and then some more
module _ (rules : Rules) (old mid new : Moment) (told more : Counts) (trace rest : Mode → List ℕ) (m : Makes rules old mid told trace) (n : Makes rules mid new more rest) where
  pub makes_then : Makes rules old new (plus told more) (λ mode. trace mode ++ rest mode)
  makes_then = record {
    moves = m.moves ++ n.moves;
    run = IsRun-append rules old m.moves n.moves m.run (subst (λ x. IsRun rules x n.moves) m.leads n.run);
    leads = n.leads ∙ ap (λ x. after rules x n.moves) m.leads ∙ sym (after-append rules old m.moves n.moves);
    tells =
        (λ i. plus (m.tells i) (n.tells i))
        ∙ ap (λ x. told_of (plus (counts rules old m.moves) (counts rules x n.moves))) m.leads
        ∙ ap told_of (sym (counts-append rules old m.moves n.moves));
    text_is = λ mode.
        (λ i. m.text_is mode i ++ n.text_is mode i)
        ∙ ap (λ x. text_in mode rules old m.moves ++ text_in mode rules x n.moves) m.leads
        ∙ sym (text_in-append mode rules old m.moves n.moves);
  }

-- one move, by its report
move_made : (rules : Rules) (now new : Moment) (move : Move) (told : Counts) → Allowed rules now move → new ≡ moved rules now move → told_of (counted rules now move) ≡ told
    → MakesSome rules now new told (λ mode. switch_in mode now.last new.last ++ lines_in mode (make rules now.state move).report new.state.memory)
move_made rules now new move told allowed leads adds = record {
  makes = record {
    moves = move ∷ [];
    run = (allowed, tt);
    leads = leads;
    tells = sym (ap told_of (plus_none (counted rules now move)) ∙ adds);
    text_is = λ mode.
        ap (λ (m : Moment). switch_in mode now.last m.last ++ lines_in mode (make rules now.state move).report m.state.memory) leads ∙ text_in_one mode rules now move;
  };
  some = omega arith;
}

-- moves without text, and then one of the engine
module _ (rules : Rules) (p m q : Engine) (on : Makes rules (moment_of p) (moment_of m) no_counts no_text) (same : rules ≡ m.rules) where
  module _ (head : Head) (h : MakesMove m q head) (report : Report) (tells : report ≡ (make m.rules (moment_of m).state h.move).report) where
    one_more : MakesSome rules (moment_of m) (moment_of q) (told_by m.last q.last head) (λ mode. switch_in mode m.last q.last ++ lines_in mode report (moment_of q).state.memory)
    one_more =
        let text : Report → Mode → List ℕ = λ r mode. switch_in mode m.last q.last ++ lines_in mode r (moment_of q).state.memory in
        subst (λ x. MakesSome x (moment_of m) (moment_of q) (told_by m.last q.last head) (text report)) (sym same)
        (subst (λ r. MakesSome m.rules (moment_of m) (moment_of q) (told_by m.last q.last head) (text r)) (sym tells)
        (move_made m.rules (moment_of m) (moment_of q) h.move (told_by m.last q.last head) h.allowed h.leads h.counts))

    after_silence : (before : Option ℕ) (trace : Mode → List ℕ) → before ≡ m.last → ((mode : Mode) → trace mode ≡ switch_in mode m.last q.last ++ lines_in mode report (moment_of q).state.memory)
        → MakesSome rules (moment_of p) (moment_of q) (told_by before q.last head) trace
    unfolding makes_as makes_then
    after_silence before trace by is =
        let all = makes_then rules (moment_of p) (moment_of m) (moment_of q) no_counts _ no_text _ on one_more.makes in
        let some = one_more.some in
        record {
          makes = makes_as _ _ _ _ all (ap (λ (o : Option ℕ). told_by o q.last head) by ∙ sym (none_plus (told_by m.last q.last head))) is;
          some = rw length-append (omega (arith, some));
        }

  silent_text : (h : MakesPlain m q) (mode : Mode)
      → switch_in mode m.last q.last ≡ switch_in mode m.last q.last ++ lines_in mode (make m.rules (moment_of m).state h.makes.move).report (moment_of q).state.memory
  silent_text h mode = sym (ap (λ t. switch_in mode m.last q.last ++ t) (silent_in mode _ _ h.silent) ∙ append-nil (switch_in mode m.last q.last))

  -- a plain instruction of the same thread writes no text, too
  pub plain_too : Advances m Plain q → Makes rules (moment_of p) (moment_of q) no_counts no_text
  plain_too h =
      let one = (after_silence Quiet h.0.makes _ refl m.last no_text refl (λ mode. sym (ap (switch_in mode m.last) h.1 ∙ no_switch_in mode m.last) ∙ silent_text h.0 mode)).makes in
      makes_as _ _ _ _ one (sym (told_nothing m.last q.last h.1)) (λ mode. refl)

  -- what is no plain instruction may write some
  pub proceeds : (advance : Advance) → (position_of m).telling ≡ None → (advance ≡ Plain → ⊥) → Advances m advance q → Proceeds rules p advance q
  proceeds Plain rest other h = absurd (other refl)
  proceeds (Switched before) rest other h =
      (after_silence Quiet h.0.makes _ refl before (λ mode. switch_in mode before q.last) h.1 (λ mode. ap (λ (o : Option ℕ). switch_in mode o q.last) h.1 ∙ silent_text h.0 mode), h.0.stage)
  proceeds (Begun before) rest other h = (
    after_silence _ h.0.makes _ h.0.told before (λ mode. switch_in mode before q.last ++ lines_in mode (owed_of q).report (moment_of q).state.memory) h.1
        (λ mode. ap (λ (o : Option ℕ). switch_in mode o q.last ++ lines_in mode (owed_of q).report (moment_of q).state.memory) h.1),
    h.0.stage,
  )
  proceeds (End ending) rest other h =
      let here = subst (λ s. Ends s (moment_of m) ending) (sym same) h.ends in
      subst (λ x. Makes rules (moment_of p) (moment_of x) no_counts no_text × Ends rules (moment_of x) ending × ((position_of x).telling ≡ None)) (sym h.same) (on, here, rest)

-- what goes on after moves without text goes on from before them
module _ (rules : Rules) (p m q : Engine) (on : Makes rules (moment_of p) (moment_of m) no_counts no_text) where
  some_after : (told : Counts) (trace : Mode → List ℕ) → MakesSome rules (moment_of m) (moment_of q) told trace → MakesSome rules (moment_of p) (moment_of q) told trace
  unfolding makes_as makes_then
  some_after told trace h =
      let some = h.some in
      record {
        makes = makes_as _ _ _ _ (makes_then rules (moment_of p) (moment_of m) (moment_of q) no_counts told no_text trace on h.makes) (sym (none_plus told)) (λ mode. refl);
        some = rw length-append (omega (arith, some));
      }

  pub proceeds_after : (advance : Advance) → Proceeds rules m advance q → Proceeds rules p advance q
  proceeds_after Plain h = h
  proceeds_after (Switched before) h = (some_after _ _ h.0, h.1)
  proceeds_after (Begun before) h = (some_after _ _ h.0, h.1)
  proceeds_after (End ending) h =
      (makes_as _ _ _ _ (makes_then rules (moment_of p) (moment_of m) (moment_of q) no_counts no_counts no_text no_text on h.0) (sym (none_plus no_counts)) (λ mode. refl), h.1, h.2)

-- the same run, by no move
pub makes_same : (rules : Rules) (old new : Moment) → new ≡ old → Makes rules old new no_counts no_text
makes_same rules old new same = subst (λ n. Makes rules old n no_counts no_text) (sym same) (makes_none rules old)

-- a move whose small changes are all made tells the same
pub finished : (s t : Rules) (old mid new : Engine) (before : Option ℕ) (report : Report) → s ≡ t → Proceeds s old (Begun before) mid → Completes (position_of mid) report (position_of new)
    → MakesTold t (moment_of old) before report (moment_of new)
finished s t old mid new before report same on done =
    let is : Some (owed_of mid).report ≡ Some report = sym (ap (λ stage. telling_of stage (owed_of mid).report) on.1) ∙ done.before in
    let owed : (owed_of mid).report ≡ report = cc in
    subst (λ x. MakesTold x (moment_of old) before report (moment_of new)) same
    (subst (λ r. MakesTold s (moment_of old) before r (moment_of new)) owed
    (subst (λ n. MakesTold s (moment_of old) before (owed_of mid).report n) (sym done.now) on.0))

-- a run from a start to now, whose text in a mode was written, and what was told of it
pub record SoFar (mode : Mode) (rules : Rules) (start now : Moment) (tally : Counts) (a b : Option (List ℕ)) (f g : ℕ) : Type 0 where
  pub trace : Mode → List ℕ
  pub makes : Makes rules start now tally trace
  pub written : WritesWhole a b f g (trace mode)

pub none_so_far : (mode : Mode) (rules : Rules) (start : Moment) (a : Option (List ℕ)) (f : ℕ) → SoFar mode rules start start no_counts a a f f
none_so_far mode rules start a f = record { trace = no_text; makes = makes_none rules start; written = writes_nothing a f }

module _ (mode : Mode) (rules : Rules) (start now new : Moment) (tally more : Counts) (a b c : Option (List ℕ)) (f g h : ℕ) (all : Mode → List ℕ)
    (so_far : SoFar mode rules start now tally a b f g) (next : Makes rules now new more all) where
  -- the text of more moves is written, or the sink fails
  pub more_so_far : (sum : Counts) → sum ≡ plus tally more → WritesWhole b c g h (all mode) → SoFar mode rules start new sum a c f h
  more_so_far sum is w = record {
    trace = λ each. so_far.trace each ++ all each;
    makes = makes_as _ _ _ _ (makes_then rules start now new tally more so_far.trace all so_far.makes next) is (λ each. refl);
    written = whole_then_whole a b c f g h (so_far.trace mode) (all mode) (so_far.trace mode ++ all mode) so_far.written w refl;
  }

  pub more_fails : WritesFront b c g h (all mode) → RunsPart mode rules start a c f h
  more_fails w =
      let both = makes_then rules start now new tally more so_far.trace all so_far.makes next in
      record {
        trace = so_far.trace mode ++ all mode;
        part = record { moves = both.moves; run = both.run; told = inl (both.text_is mode) };
        written = whole_then_front a b c f g h (so_far.trace mode) (all mode) [] (so_far.trace mode ++ all mode) so_far.written w (append-nil (so_far.trace mode ++ all mode));
      }

-- after some moves without text
module _ (mode : Mode) (rules : Rules) (start mid now : Moment) (tally : Counts) (a b : Option (List ℕ)) (f g : ℕ) (so_far : SoFar mode rules start mid tally a b f g) (on : Makes rules mid now no_counts no_text) where
  both : Makes rules start now tally so_far.trace
  both = makes_as _ _ _ _ (makes_then rules start mid now tally no_counts so_far.trace no_text so_far.makes on) (sym (plus_none tally)) (λ each. sym (append-nil (so_far.trace each)))

  counted_all : (counts rules start both.moves).instructions + start.instructions ≡ now.instructions
  counted_all = all_instructions rules start both.moves ∙ ap (λ (m : Moment). m.instructions) (sym both.leads)

  pub made_grows : start.instructions ≤ now.instructions
  made_grows = let counted = counted_all in omega (arith, counted)

  -- the run has ended
  module _ (ending : Ending) (ends : Ends rules now ending) (c : Option (List ℕ)) (h : ℕ) (end : List ℕ) (is : end ≡ end_in mode (left now.state) ending) where
    ends_here : Ends rules (after rules start both.moves) ending
    ends_here = subst (λ n. Ends rules n ending) both.leads ends

    all_text : so_far.trace mode ++ end ≡ whole_in mode rules start both.moves ending
    all_text = ap (λ t. so_far.trace mode ++ t) is ∙ (λ i. both.text_is mode i ++ end_in mode (left (both.leads i).state) ending)

    -- the end is written
    pub ended_whole : (done : Counts) → done ≡ record tally { instructions = now.instructions - start.instructions } → WritesWhole b c g h end
        → RunsWhole mode rules start (record { ending = ending; counts = done }) a c f h
    ended_whole done told w =
        let counted = counted_all in
        let instructions : now.instructions - start.instructions ≡ (counts rules start both.moves).instructions = omega (arith, counted) in
        record {
          trace = so_far.trace mode ++ end;
          whole = record { moves = both.moves; run = both.run; ends = ends_here; told = all_text };
          counted = told ∙ (λ i. record (both.tells i) { instructions = instructions i });
          written = whole_then_whole a b c f g h (so_far.trace mode) end (so_far.trace mode ++ end) so_far.written w refl;
        }

    -- the end fails
    pub ended_fails : WritesFront b c g h end → RunsPart mode rules start a c f h
    ended_fails w = record {
      trace = so_far.trace mode ++ end;
      part = record { moves = both.moves; run = both.run; told = inr (ending, ends_here, all_text) };
      written = whole_then_front a b c f g h (so_far.trace mode) end [] (so_far.trace mode ++ end) so_far.written w (append-nil (so_far.trace mode ++ end));
    }

-- what the loop says at its exits
pub runs_err : {E : Type 0} (mode : Mode) (rules : Rules) (start : Moment) (r : Result Done E) (a b : Option (List ℕ)) (f g : ℕ) → IsErr r → RunsPart mode rules start a b f g
    → Goes mode rules start r a b f g
runs_err mode rules start (Ok u) a b f g h p = absurd (let e : false ≡ true = h in cc)
runs_err mode rules start (Err e) a b f g h p = p

-- moves leave fewer that may follow, and lead from a good state to a good one
pub falls : (rules : Rules) (old new : Moment) (told : Counts) (trace : Mode → List ℕ) → IsJournal rules.journal → IsGood old.state → MakesSome rules old new told trace
    → moves_left rules new < moves_left rules old
falls rules old new told trace journal good m =
    let all = subst (λ n. length m.makes.moves + moves_left rules n ≤ moves_left rules old) (sym m.makes.leads) (run_falls rules old m.makes.moves journal good m.makes.run) in
    let some = m.some in
    omega (arith, all, some)

pub stays_good : (rules : Rules) (old new : Moment) (told : Counts) (trace : Mode → List ℕ) → IsGood old.state → Makes rules old new told trace → IsGood new.state
stays_good rules old new told trace good m = subst (λ (n : Moment). IsGood n.state) (sym m.leads) (goodness.2 rules old m.moves good m.run)

-- a plain instruction leaves fewer
pub plain_falls : (rules : Rules) (m q : Engine) → IsJournal rules.journal → IsGood (moment_of m).state → rules ≡ m.rules → MakesPlain m q → moves_left rules (moment_of q) < moves_left rules (moment_of m)
plain_falls rules m q journal good same h =
    let fall = moves_fall m.rules (moment_of m) h.makes.move (subst (λ (r : Rules). IsJournal r.journal) same journal) good h.makes.allowed in
    subst (λ r. moves_left r (moment_of q) < moves_left r (moment_of m)) (sym same)
    (subst (λ n. moves_left m.rules n < moves_left m.rules (moment_of m)) (sym h.makes.leads) fall)

-- few moves may follow, and so few things are told
pub tally_few : (mode : Mode) (rules : Rules) (start now : Moment) (tally : Counts) (a b : Option (List ℕ)) (f g : ℕ) → IsJournal rules.journal → IsGood start.state
    → rules.settings.budget ≤ 1000000000 → SoFar mode rules start now tally a b f g → things tally ≤ 9000012006615
tally_few mode rules start now tally a b f g journal good limit so_far =
    let each = few rules start so_far.makes.moves in
    let all = run_falls rules start so_far.makes.moves journal good so_far.makes.run in
    let most = moves_few rules start journal limit in
    let told = ap things so_far.makes.tells in
    omega (arith, each, all, most, told)

-- a run keeps within the budget
after_within : (rules : Rules) (now : Moment) (moves : List Move) → now.instructions ≤ rules.settings.budget → IsRun rules now moves
    → (after rules now moves).instructions ≤ rules.settings.budget
after_within rules now [] within run = within
after_within rules now (m ∷ ms) within run = after_within rules (moved rules now m) ms (still_within rules now m within run.0) run.1

-- the text of a run so far is a front of the text of a whole run
whole_in_part : (mode : Mode) (rules : Rules) (start : Moment) (trace : List ℕ) → IsJournal rules.journal → IsGood start.state
    → start.instructions ≤ rules.settings.budget → IsTextIn mode rules start trace
    → (ending : Ending) × (rest : List ℕ) × IsWholeIn mode rules start ending (trace ++ rest)
whole_in_part mode rules start trace journal good within part =
    elim part.told [
      | inl e ↦
          (let now = after rules start part.moves in
          let more = completion rules now journal (goodness.2 rules start part.moves good part.run) (after_within rules start part.moves within part.run) in
          let end = end_in mode (left (after rules now more.0).state) more.1 in (
            more.1,
            text_in mode rules now more.0 ++ end,
            record {
              moves = part.moves ++ more.0;
              run = IsRun-append rules start part.moves more.0 part.run more.2.run;
              ends = subst (λ n. Ends rules n more.1) (sym (after-append rules start part.moves more.0)) more.2.ends;
              told =
                  ap (λ t. t ++ (text_in mode rules now more.0 ++ end)) e
                  ∙ sym (append_assoc (text_in mode rules start part.moves) (text_in mode rules now more.0) end)
                  ∙ ap (λ t. t ++ end) (sym (text_in-append mode rules start part.moves more.0))
                  ∙ ap (λ (n : Moment). text_in mode rules start (part.moves ++ more.0) ++ end_in mode (left n.state) more.1) (sym (after-append rules start part.moves more.0));
            },
          ))
      | inr e ↦ (e.0, [], record { moves = part.moves; run = part.run; ends = e.1; told = append-nil trace ∙ e.2 })
    ]

-- what was written of a run so far is a front of the text of a whole run
pub part_front : (mode : Mode) (rules : Rules) (start : Moment) (a b : Option (List ℕ)) (f g : ℕ) → IsJournal rules.journal → IsGood start.state → start.instructions ≤ rules.settings.budget
    → RunsPart mode rules start a b f g → RunsFront mode rules start a b f g
part_front mode rules start a b f g journal good within r =
    let whole = whole_in_part mode rules start r.trace journal good within r.part in
    record {
      ending = whole.0;
      trace = r.trace ++ whole.1;
      whole = whole.2;
      written = front_of_more a b f g r.trace whole.1 (r.trace ++ whole.1) r.written refl;
    }
