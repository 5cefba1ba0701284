-- How the edit is found in the bytes of a text: what the code's parts hand back. Assumes nothing.
use Rattle.std.specs.Prelude.{◌≡◌, ◌⊎◌, Bool, true, false, cond, List, [], ◌∷◌, ◌++◌, ℕ, suc, ◌+◌, ◌≤◌, ◌<◌, eqb, ltb, length, take, drop, get_or}
use Rattle.ternary.specs.Digits.{Below}
use Rattle.reading.specs.declared.Level.{Level}
use Rattle.reading.specs.Reading.{Nodes, end, whole, listed, first, many, wholes, render, Good}
use Rattle.reading.proofs.Laws.Parse.{Stop}
use Rattle.reading.specs.Prefix.{Name}
use Rattle.code.specs.Code.{cell_of}
use Rattle.name.specs.Name.{name_of}
use Rattle.walk.specs.Walk.{whole_at}
use Rattle.adding.specs.declared.Edit.{Edit}
use Rattle.adding.specs.declared.Edit.TheVariants.{Covered, Put, Cut, Full}
use Rattle.adding.specs.declared.Skipped.{Skipped}
use Rattle.adding.specs.declared.ListAt.{ListAt}
use Rattle.adding.specs.Internal.Edit.{name_bytes, edit_of}
use Rattle.adding.specs.InMind.{LeadsTo}

-- the letters or digits of whole nodes that stand first
unfoldable pub run_in : List ℕ → ℕ
run_in [] = 0
run_in (b ∷ bs) = cond (whole_at (b ∷ bs)) (suc (run_in bs)) 0

-- the node at i, whose bytes end at e, becomes whole, with w whole ones before it and n behind it
unfoldable pub whole_as : (i e w n : ℕ) → Edit
whole_as i e w n = cond (eqb (w + 1 + n) 9) (Full (e + n)) (Cut (i + 1) e)

-- the bytes from k on of a name of so many go in at i
unfoldable pub put_as : (i k count w n : ℕ) → Edit
put_as i k count w n = cond (ltb (k + 1) count) (Put i k) (cond (eqb (w + 1 + n) 9) (Full (i + n)) (Put i k))

-- what an edit of its list is to the node at i
unfoldable pub over_as : (i w : ℕ) → List ℕ → Edit → Edit
unfolding whole_as run_in
over_as i w t Covered = Covered
over_as i w t (Put a k) = Put a k
over_as i w t (Cut a b) = Cut a b
over_as i w t (Full e) = whole_as i (e + 1) w (run_in (drop (e + 1) t))

-- where nodes that are nine whole ones then end, a `)` stands
abbrev pub EndsIn : (i n : ℕ) → Edit → Type 0
EndsIn i n Covered = Unit {0}
EndsIn i n (Put a k) = Unit {0}
EndsIn i n (Cut a b) = Unit {0}
EndsIn i n (Full e) = (i < e) × (e < n)

-- nodes stand from `at` on, and the name's bytes from k on are those of a cell in them
pub record Stands (t name : List ℕ) (at k : ℕ) : Type 0 where
  pub level : Level
  pub depth : ℕ
  pub nodes : Nodes
  pub rest : List ℕ
  pub number : ℕ
  pub digits : Name
  pub within : at ≤ length t
  pub left : drop at t ≡ render level nodes ++ rest
  pub stop : Stop rest
  pub good : Good level depth 0 nodes
  pub few : wholes nodes ≡ 9 → ⊥
  pub named : drop k name ≡ name_bytes level (number ∷ digits)
  pub small : number < many level
  pub below : Below 9 digits

-- the edit of these nodes
pub record EditIs (t name : List ℕ) (at k : ℕ) (r : Edit) : Type 0 where
  pub is : (v : Stands t name at k) → r ≡ edit_of at k 0 v.number v.digits v.nodes

-- the nodes from i on are the last of them, w whole ones stand before these, the edit is that of these, and they lead where all of them lead
pub record Lands {t name : List ℕ} {at k : ℕ} (v : Stands t name at k) (i w : ℕ) : Type 0 where
  pub lo : ℕ
  pub nodes : Nodes
  pub within : i ≤ length t
  pub left : drop i t ≡ render v.level nodes ++ v.rest
  pub good : Good v.level v.depth lo nodes
  pub low : lo ≤ v.number
  pub same : edit_of at k 0 v.number v.digits v.nodes ≡ edit_of i k w v.number v.digits nodes
  pub on : (p : Name) (to : ℕ) (is : Nodes) → LeadsTo i (v.number ∷ p) nodes to is → LeadsTo at (v.number ∷ p) v.nodes to is

-- none of the nodes is before x
abbrev pub From : ℕ → Nodes → Type 0
From x end = Unit {0}
From x (whole c ns) = x ≤ c
From x (listed c is ns) = x ≤ c

-- passing over those that come before a byte
pub record SkipIs (t : List ℕ) (at byte : ℕ) (r : Skipped) : Type 0 where
  pub few : r.wholes ≤ length t
  pub is : {name : List ℕ} {k : ℕ} (v : Stands t name at k) → byte ≡ first v.level + v.number → (s : Lands v r.place r.wholes) × From v.number s.nodes

-- ---- a list that the first numbers of a name lead to

-- some of them, at least one, in a text whose nodes begin at `body`
pub record Deep {t name : List ℕ} {body : ℕ} (v : Stands t name body 0) (at k : ℕ) : Type 0 where
  pub front : Name
  pub number : ℕ
  pub digits : Name
  pub split : v.digits ≡ front ++ (number ∷ digits)
  pub deep : k ≡ suc (length front)
  pub list : Nodes
  pub leads : LeadsTo body (v.number ∷ front) v.nodes at list

-- or none of them: the nodes themselves
abbrev pub Led : {t name : List ℕ} {body : ℕ} (v : Stands t name body 0) (at k : ℕ) → Type 0
Led {body = body} v at k = ((k ≡ 0) × (at ≡ body)) ⊎ Deep v at k

-- there are such nodes
pub record OnWay (t name : List ℕ) (body at k : ℕ) : Type 0 where
  pub stands : Stands t name body 0
  pub led : Led stands at k

-- further down the same way
pub record ReachIs (t name : List ℕ) (at k : ℕ) (r : ListAt) : Type 0 where
  pub short : r.depth < length name
  pub led : {body : ℕ} (v : Stands t name body 0) → Led v at k → Led v r.place r.depth

-- an edit that makes all nine nodes of its list whole
abbrev pub becomes_whole : Edit → Bool
becomes_whole Covered = false
becomes_whole (Put a k) = false
becomes_whole (Cut a b) = false
becomes_whole (Full e) = true

-- where to begin: at the nodes themselves, or where the last name led, whose first bytes are this name's too
abbrev pub StartIs : (body : ℕ) (name near : List ℕ) → ListAt → Type 0
StartIs body name near r =
    (r ≡ record { place = body; depth = 0 })
    ⊎ ((r ≡ record { place = get_or near 0 0; depth = get_or near 1 0 }) × (get_or near 1 0 < length name)
    × (take (get_or near 1 0) name ≡ take (get_or near 1 0) (name_of (cell_of (get_or near 2 0)))))

-- the edit of the text, and what is kept of the way to it
pub record NearEdit (t name : List ℕ) (body at k code : ℕ) (near : List ℕ) (r : Edit) : Type 0 where
  pub is : (v : Stands t name body 0) → Led v at k → r ≡ edit_of body 0 0 v.number v.digits v.nodes
  pub kept : (near ≡ body ∷ 0 ∷ code ∷ []) ⊎ ((near ≡ at ∷ k ∷ code ∷ []) × (becomes_whole r ≡ false) × EditIs t name at k r)
