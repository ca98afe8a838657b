-- How a ready list by levels is kept: a list for each level, and rising numbers that tell the order of all.
use Rattle.std.specs.Prelude.{◌≡◌, ℕ, ◌<◌, ◌==◌, ◌&&◌, true, is_some, nat_lt, if◌then◌else◌, List, [], ◌∷◌, Option, Some, None, filter, length, slice_index_or}
use Rattle.std.specs.Int.{bit_at}
use Rattle.thread_base.specs.Maps.{numbered}
use Rattle.thread_base.specs.Orders.{is_in, IsOrder}
use Rattle.thread_base.specs.Priority.{tids}
use Rattle.link_arena.specs.Chains.{NodeLists, AreApart, list_of, head_in, first_of}

-- the number that a thread was given
abbrev pub number_of : List ℕ → ℕ → ℕ
number_of numbers t = slice_index_or numbers t 0

-- a list with a thread before the first of a greater number
abbrev pub ranked_in : (ℕ → ℕ) → ℕ → List ℕ → List ℕ
ranked_in number t [] = t ∷ []
ranked_in number t (u ∷ us) = if nat_lt (number t) (number u) then t ∷ u ∷ us else u ∷ ranked_in number t us

-- threads in the order of their numbers
abbrev pub ranked : (ℕ → ℕ) → List ℕ → List ℕ
ranked number [] = []
ranked number (t ∷ ts) = ranked_in number t (ranked number ts)

-- the threads that stand in some list
unfoldable pub standing : List (List ℕ) → List ℕ
standing lists = filter (λ t. is_some (head_in lists t)) tids

-- the ready list: the threads of all lists, in the order of their numbers
unfoldable pub shown_order : List ℕ → List (List ℕ) → List ℕ
shown_order numbers lists = ranked (number_of numbers) (standing lists)

-- the threads of a list that have one level
abbrev pub at_level : (ℕ → ℕ) → ℕ → List ℕ → List ℕ
at_level level h ts = filter (λ t. level t == h) ts

-- of two threads of a list the later has the greater number
abbrev pub Rises : (ℕ → ℕ) → List ℕ → Type 0
Rises number [] = Unit {0}
Rises number (t ∷ ts) = ((u : ℕ) → is_in u ts ≡ true → number t < number u) × Rises number ts

-- how many threads that stand in lists have a lower number
unfoldable pub rank_of : List ℕ → List (List ℕ) → ℕ → ℕ
rank_of numbers lists t = length (filter (λ u. is_some (head_in lists u) && nat_lt (number_of numbers u) (number_of numbers t)) tids)

-- the numbers of a list rise, and are below the next one
pub record AreNumbered (numbers : List ℕ) (next : ℕ) (order : List ℕ) : Type 0 where
  pub rising : Rises (number_of numbers) order
  pub below : (t : ℕ) → is_in t order ≡ true → number_of numbers t < next

-- each thread of a list stands in some list of the levels
abbrev pub AllStand : List (List ℕ) → List ℕ → Type 0
AllStand lists order = (t : ℕ) → is_in t order ≡ true → is_some (head_in lists t) ≡ true

-- the bit of a list: whether it has a thread
abbrev pub mark_of : List ℕ → ℕ
mark_of [] = 0
mark_of (t ∷ ts) = 1

-- there is a list for each priority, and bit h says whether list h has a thread
pub record AreMarked (links : NodeLists) (bits : ℕ) : Type 0 where
  pub nodes : links.nodes ≡ 65
  pub count : length links.lists ≡ 32
  pub apart : AreApart links
  pub marks : (h : ℕ) → h < 32 → bit_at bits h ≡ mark_of (list_of links.lists h)

-- the first thread of the last list that has one
abbrev pub IsTop : List (List ℕ) → Option ℕ → Type 0
IsTop lists None = (h : ℕ) → list_of lists h ≡ []
IsTop lists (Some t) = (h : ℕ) × (first_of (list_of lists h) ≡ Some t) × ((k : ℕ) → h < k → list_of lists k ≡ [])

-- the threads of a ready list: their numbers rise along it, and each list has those of its level in that order
pub record IsRanked (order levels numbers : List ℕ) (next : ℕ) (lists : List (List ℕ)) : Type 0 where
  pub stands : IsOrder order
  pub rise : AreNumbered numbers next order
  pub each : (h : ℕ) → list_of lists h ≡ at_level (numbered 0 levels) h order

-- the fields keep some ready list
pub record AreRanked (levels numbers : List ℕ) (next : ℕ) (lists : List (List ℕ)) : Type 0 where
  pub order : List ℕ
  pub are : IsRanked order levels numbers next lists
