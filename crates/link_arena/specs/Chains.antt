-- Lists of nodes, one for each head, and how they change.
use Rattle.std.specs.Prelude.{◌≡◌, ℕ, ◌<◌, ◌==◌, if◌then◌else◌, true, false, List, [], ◌∷◌, ◌++◌, Option, Some, None, map, set, slice_index_or, suc}
use Rattle.thread_base.specs.Orders.{is_in, without}

-- how many nodes there are, and the nodes of each head in order (this project's own)
pub record NodeLists : Type 0 where
  pub nodes : ℕ
  pub lists : List (List ℕ)

-- the list of a head, empty where there is none
abbrev pub list_of : List (List ℕ) → ℕ → List ℕ
list_of lists head = slice_index_or lists head []

-- a number and one more
abbrev pub one_more : Option ℕ → Option ℕ
one_more None = None
one_more (Some n) = Some (suc n)

-- the head whose list has a node
abbrev pub head_in : List (List ℕ) → ℕ → Option ℕ
head_in [] node = None
head_in (list ∷ rest) node = if is_in node list then Some 0 else one_more (head_in rest node)

-- the first node of a list
abbrev pub first_of : List ℕ → Option ℕ
first_of [] = None
first_of (n ∷ ns) = Some n

-- the node that stands after another in one list
abbrev pub after_in : ℕ → List ℕ → Option ℕ
after_in node [] = None
after_in node (n ∷ ns) = if n == node then first_of ns else after_in node ns

-- the node that stands after another in the list that has it
abbrev pub next_in : List (List ℕ) → ℕ → Option ℕ
next_in [] node = None
next_in (list ∷ rest) node = if is_in node list then after_in node list else next_in rest node

-- a list with a node right before another that it has
abbrev pub with_before : ℕ → ℕ → List ℕ → List ℕ
with_before node at [] = []
with_before node at (n ∷ ns) = if n == at then node ∷ n ∷ ns else n ∷ with_before node at ns

-- the lists with a node after all others of one head
abbrev pub pushed : ℕ → ℕ → NodeLists → NodeLists
pushed head node links = record { nodes = links.nodes; lists = set links.lists head (list_of links.lists head ++ node ∷ []) }

-- the lists with a node right before another
abbrev pub inserted : ℕ → ℕ → NodeLists → NodeLists
inserted node at links = record { nodes = links.nodes; lists = map (with_before node at) links.lists }

-- the lists without a node
abbrev pub unlinked : ℕ → NodeLists → NodeLists
unlinked node links = record { nodes = links.nodes; lists = map (without node) links.lists }

-- no number stands twice
abbrev pub StandsOnce : List ℕ → Type 0
StandsOnce [] = Unit {0}
StandsOnce (n ∷ ns) = (is_in n ns ≡ false) × StandsOnce ns

-- each node stands once in its list, and in no other
pub record AreApart (links : NodeLists) : Type 0 where
  pub once : (head : ℕ) → StandsOnce (list_of links.lists head)
  pub one : (g h node : ℕ) → is_in node (list_of links.lists g) ≡ true → is_in node (list_of links.lists h) ≡ true → g ≡ h
  pub below : (head node : ℕ) → is_in node (list_of links.lists head) ≡ true → node < links.nodes
