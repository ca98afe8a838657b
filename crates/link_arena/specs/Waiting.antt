-- Lists of threads that wait, each by the number of what it waits for.
use Rattle.std.specs.Prelude.{◌≡◌, ℕ, ◌≤◌, true, false, List, [], length, slice_index_or}
use Rattle.thread_base.specs.Orders.{is_in, IsOrder}
use Rattle.link_arena.specs.Chains.{NodeLists, AreApart as AreLists}

-- the list of each number, empty where there is none (this project's own)
unfoldable pub queue_of : List (List ℕ) → ℕ → List ℕ
queue_of lists n = slice_index_or lists n []

-- a thread stands in no list (this project's own)
abbrev pub StandsInNone : ℕ → (ℕ → List ℕ) → Type 0
StandsInNone t queues = (n : ℕ) → is_in t (queues n) ≡ false

-- a thread stands in some list (this project's own)
abbrev pub StandsInOne : ℕ → (ℕ → List ℕ) → Type 0
StandsInOne t queues = (n : ℕ) × (is_in t (queues n) ≡ true)

-- a thread stands once in its list and in no other (POSIX.1: a blocked thread waits for one thing)
pub record AreApart (queues : ℕ → List ℕ) : Type 0 where
  pub order : (n : ℕ) → IsOrder (queues n)
  pub once : (m n t : ℕ) → is_in t (queues m) ≡ true → is_in t (queues n) ≡ true → m ≡ n

-- the nodes that stand in lists are numbers of threads (this project's own, with 256 lists)
pub record AreQueues (links : NodeLists) : Type 0 where
  pub nodes : links.nodes ≡ 65
  pub count : length links.lists ≡ 256
  pub apart : AreLists links
  pub threads : (n t : ℕ) → is_in t (queue_of links.lists n) ≡ true → 1 ≤ t
