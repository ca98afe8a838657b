-- Stacks of nodes, one for each thread, and the nodes that each thread has free.
use Rattle.std.specs.Prelude.{◌≡◌, ℕ, ◌+◌, ◌<◌, ◌≤◌, ◌==◌, nat_lt, if◌then◌else◌, true, List, [], ◌∷◌, ◌++◌, Option, Some, None, length, slice_get, slice_index_or}
use Rattle.thread_base.specs.Orders.{is_in}
use Rattle.link_arena.specs.Chains.{NodeLists, AreApart, list_of}

-- the list after its first node
abbrev pub rest_of : List ℕ → List ℕ
rest_of [] = []
rest_of (n ∷ ns) = ns

-- the lists after the first node of one went to the front of another
abbrev pub moved : List (List ℕ) → ℕ → ℕ → ℕ → ℕ → List ℕ
moved lists from to node h = if h == to then node ∷ list_of lists to else if h == from then rest_of (list_of lists from) else list_of lists h

-- the stack of a thread, from the top; list t is that of thread t (this project's own)
unfoldable pub stack_at : List (List ℕ) → ℕ → List ℕ
stack_at lists t = if nat_lt t 65 then list_of lists t else []

-- each thread has 32 nodes: those of its stack and, in list 64 + t, those that are free (this project's own)
pub record AreStacks (links : NodeLists) (depths : List ℕ) : Type 0 where
  pub nodes : links.nodes ≡ 2048
  pub count : length links.lists ≡ 129
  pub apart : AreApart links
  pub nobody : list_of links.lists 0 ≡ []
  pub rooms : (t : ℕ) → 1 ≤ t → t ≤ 64 → length (list_of links.lists t) + length (list_of links.lists (64 + t)) ≡ 32
  pub places : length depths ≡ 65
  pub counted : (t : ℕ) → t ≤ 64 → slice_index_or depths t 0 ≡ length (list_of links.lists t)

-- what is kept at a place, as a list
abbrev pub there : {A : Type 0} → Option A → List A
there None = []
there (Some x) = x ∷ []

-- what is kept for the nodes of a stack, from the first that was pushed to the top
abbrev pub stacked : {A : Type 0} → List A → List ℕ → List A
stacked kept [] = []
stacked kept (n ∷ ns) = stacked kept ns ++ there (slice_get kept n)

-- there is a place for each node of each stack
pub record HavePlaces {A : Type 0} (kept : List A) (stacks : ℕ → List ℕ) : Type 0 where
  pub places : length kept ≡ 2048
  pub below : (t n : ℕ) → is_in n (stacks t) ≡ true → n < 2048
