-- The numbers that accepted words give are within their limits.
use Rattle.std.proofs.Common.{◌≡◌, ◌≤◌, ℕ, Bool, true, false, Option, Some, None, List, ap, sym, subst, refl, leb-true, nat_le, ◌&&◌, ◌%◌, ◌==◌, codes}
use Rattle.std.proofs.lemmas.Option.{same_Some}
use Rattle.std.specs.Prelude.{if◌then◌else◌, option_and_then, option_map}
use Rattle.clap.specs.Words.{Row, first_of}
use Rattle.rv_exec.specs.Window.{IsMemorySize}
use Rattle.command_words.specs.Values.{is_budget, is_memory, is_quantum, limited, number, value_or}
use Rattle.command_words.specs.Program.{is_taken, rows_given}
use Rattle.posix_model.specs.declared.Settings.{Settings as Run}
use Rattle.command_words.specs.Accepted.{Origin, named, generated, Settings, accepted, budget_in, quantum_in, memory_in, origin_in, is_plain_in, mode_of, settings_in}
use Rattle.command_words.specs.declared.options.Mode.{Mode}
use Rattle.replay_cli.specs.Words.{Request, built, request_in}

-- a number that is limited fits
limited_fits : (fits : ℕ → Bool) (o : Option ℕ) (n : ℕ) → limited fits o ≡ Some n → fits n ≡ true
limited_fits fits None n e = absurd (cc)
limited_fits fits (Some m) n e = go (fits m) refl e
  where
    go : (b : Bool) → fits m ≡ b → (if b then Some m else None) ≡ Some n → fits n ≡ true
    go true fit same = subst (λ (k : ℕ). fits k ≡ true) (same_Some m n same) fit
    go false other same = absurd (cc)

-- a value fits where its default does
value_fits : (default : ℕ) (fits : ℕ → Bool) (text : Option (List ℕ)) (n : ℕ) → fits default ≡ true → value_or default fits text ≡ Some n → fits n ≡ true
value_fits default fits None n fit e = subst (λ (k : ℕ). fits k ≡ true) (same_Some default n e) fit
value_fits default fits (Some text) n fit e = limited_fits fits (number text) n e

-- the options that are made of their parts, where each part is there
abbrev made : Option ℕ → Option ℕ → Option ℕ → Option Origin → Mode → Option Settings
made b q m o mode =
    option_and_then (λ budget. option_and_then (λ quantum. option_and_then (λ memory. option_map (λ source. record {
      source = source;
      budget = budget;
      quantum = quantum;
      memory = memory;
      mode = mode;
    }) o) m) q) b

-- each number of options is that of its part
parts : (b q m : Option ℕ) (o : Option Origin) (mode : Mode) (s : Settings) → made b q m o mode ≡ Some s
    → (b ≡ Some s.budget) × (q ≡ Some s.quantum) × (m ≡ Some s.memory)
parts None q m o mode s e = absurd (cc)
parts (Some b) None m o mode s e = absurd (cc)
parts (Some b) (Some q) None o mode s e = absurd (cc)
parts (Some b) (Some q) (Some m) None mode s e = absurd (cc)
parts (Some b) (Some q) (Some m) (Some o) mode s e =
    let same = same_Some _ s e in
    (ap (λ (x : Settings). Some x.budget) same, ap (λ (x : Settings). Some x.quantum) same, ap (λ (x : Settings). Some x.memory) same)

-- the numbers of a run are within their limits
pub record Fits (budget quantum memory : ℕ) : Type 0 where
  pub budget_fits : budget ≤ 1000000000
  pub quantum_fits : (1 ≤ quantum) × (quantum ≤ 1000)
  pub memory_fits : IsMemorySize memory

-- both of two tests, and all of three
both : (a b : Bool) → (a && b) ≡ true → (a ≡ true) × (b ≡ true)
both true b e = (refl, e)
both false b e = absurd (cc)

join : (a b c : Bool) → a ≡ true → b ≡ true → c ≡ true → (a && (b && c)) ≡ true
join a b c x y z = rw (x, y, z) refl

-- numbers within the limits of their options
fits_of : (b q m : ℕ) → is_budget b ≡ true → is_quantum q ≡ true → is_memory m ≡ true → Fits b q m
fits_of b q m fb fq fm =
    let quantum = both (nat_le 1 q) (nat_le q 1000) fq in
    let size = both (nat_le 65536 m) (nat_le m 67108864 && (m % 4096 == 0)) fm in
    let most = both (nat_le m 67108864) (m % 4096 == 0) size.1 in
    record {
      budget_fits = leb-true b 1000000000 fb;
      quantum_fits = (leb-true 1 q quantum.0, leb-true q 1000 quantum.1);
      memory_fits = join (m % 4096 == 0) (nat_le 65536 m) (nat_le m 67108864) most.1 size.0 most.0;
    }

-- what rows of matches give is within its limits
rows_fit : (rows : List Row) (s : Settings) → settings_in rows ≡ Some s → Fits s.budget s.quantum s.memory
rows_fit rows s e =
    let p = parts (budget_in rows) (quantum_in rows) (memory_in rows) (origin_in rows) (mode_of (is_plain_in rows)) s e in
    fits_of s.budget s.quantum s.memory
    (value_fits 1000000 is_budget (first_of (codes "budget") rows) s.budget refl p.0)
    (value_fits 4 is_quantum (first_of (codes "quantum") rows) s.quantum refl p.1)
    (value_fits 4194304 is_memory (first_of (codes "mem") rows) s.memory refl p.2)

-- what accepted words give is within its limits
words_fit : (words : List (List ℕ)) (s : Settings) → accepted words ≡ Some s → Fits s.budget s.quantum s.memory
unfolding accepted
words_fit words s e = go (is_taken words) e
  where
    go : (b : Bool) → (if b then settings_in (rows_given words) else None) ≡ Some s → Fits s.budget s.quantum s.memory
    go true same = rows_fit (rows_given words) s same
    go false same = absurd (cc)

-- a run that is built has these numbers
built_from : (source : Origin) (mode : Mode) (settings : Run) (memory : ℕ) (r : Request) → Some r ≡ built source mode settings memory
    → (settings ≡ r.settings) × (memory ≡ r.memory)
built_from (named image journal) mode settings memory r e =
    let same = same_Some r _ e in
    (ap (λ (x : Request). x.settings) (sym same), ap (λ (x : Request). x.memory) (sym same))
built_from (generated seed) mode settings memory r e = absurd (cc)

-- what accepted words ask for is within its limits
pub request_fits : (words : List (List ℕ)) (s : Settings) (r : Request) → Some s ≡ accepted words → Some r ≡ request_in s
    → Fits r.settings.budget r.settings.quantum r.memory
request_fits words s r of_words of_options =
    let same = built_from s.source s.mode (record { budget = s.budget; quantum = s.quantum }) s.memory r of_options in
    subst (λ (m : ℕ). Fits r.settings.budget r.settings.quantum m) same.1
    (subst (λ (x : Run). Fits x.budget x.quantum s.memory) same.0 (words_fit words s (sym of_words)))
