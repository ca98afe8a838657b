-- How the lists are kept: the nodes of a head and its end make a ring.
use Rattle.std.specs.Prelude.{◌≡◌, ℕ, ◌+◌, ◌-◌, ◌<◌, ◌≤◌, ◌==◌, if◌then◌else◌, nat_lt, Bool, false, List, [], ◌∷◌, Option, Some, None, length, map, slice_index_or, zero, suc}
use Rattle.std.specs.List.{range_with_len}
use Rattle.thread_base.specs.Orders.{is_in}
use Rattle.link_arena.specs.Chains.{list_of, StandsOnce, NodeLists}

-- what is kept at a place, and 0 where there is none
abbrev pub kept_at : List ℕ → ℕ → ℕ
kept_at places x = slice_index_or places x 0

-- the head that is kept for a place
abbrev pub home_at : List (Option ℕ) → ℕ → Option ℕ
home_at homes x = slice_index_or homes x None

-- a head is this one
abbrev pub is_for : Option ℕ → ℕ → Bool
is_for None h = false
is_for (Some g) h = g == h

-- the end of a head and its nodes
abbrev pub ring : ℕ → List (List ℕ) → ℕ → List ℕ
ring nodes lists head = (nodes + head) ∷ list_of lists head

-- the place after x, where `start` stands before the nodes and `end` after them
abbrev pub place_after : ℕ → ℕ → ℕ → List ℕ → ℕ
place_after end start x [] = end
place_after end start x (n ∷ ns) = if x == start then n else place_after end n x ns

-- the place before x, in the same way
abbrev pub place_before : ℕ → ℕ → ℕ → List ℕ → ℕ
place_before end start x [] = start
place_before end start x (n ∷ ns) = if x == n then start else place_before end n x ns

-- the head of a place while each list is empty
abbrev pub first_home : ℕ → ℕ → Option ℕ
first_home nodes x = if nat_lt x nodes then None else Some (x - nodes)

-- the node of a place, which an end has not
abbrev pub node_of : ℕ → ℕ → Option ℕ
node_of nodes x = if nat_lt x nodes then Some x else None

-- the nodes after a place, up to the next end, at most so many
abbrev pub walked : List ℕ → ℕ → ℕ → ℕ → List ℕ
walked next nodes zero x = []
walked next nodes (suc most) x = if nat_lt (kept_at next x) nodes then kept_at next x ∷ walked next nodes most (kept_at next x) else []

-- the lists that are kept
unfoldable pub shown : ℕ → ℕ → List ℕ → NodeLists
shown nodes heads next = record { nodes = nodes; lists = map (λ h. walked next nodes nodes (nodes + h)) (range_with_len 0 heads) }

-- each place points to its neighbours in the ring of its head
pub record AreLinked (nodes : ℕ) (lists : List (List ℕ)) (next previous : List ℕ) (homes : List (Option ℕ)) : Type 0 where
  pub places : nodes + length lists ≡ length next
  pub same : (length previous ≡ length next) × (length homes ≡ length next)
  pub small : length next ≤ 8192
  pub heads : (x h : ℕ) → home_at homes x ≡ Some h → h < length lists
  pub stands : (x h : ℕ) → h < length lists → is_in x (ring nodes lists h) ≡ is_for (home_at homes x) h
  pub once : (h : ℕ) → h < length lists → StandsOnce (ring nodes lists h)
  pub after : (x h : ℕ) → home_at homes x ≡ Some h → kept_at next x ≡ place_after (nodes + h) (nodes + h) x (list_of lists h)
  pub before : (x h : ℕ) → home_at homes x ≡ Some h → kept_at previous x ≡ place_before (nodes + h) (nodes + h) x (list_of lists h)

-- the fields keep some lists, one for each head
pub record Keeps (nodes heads : ℕ) (next previous : List ℕ) (homes : List (Option ℕ)) : Type 0 where
  pub lists : List (List ℕ)
  pub count : length lists ≡ heads
  pub are : AreLinked nodes lists next previous homes
