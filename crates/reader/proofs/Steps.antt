-- The steps of the two readers over the bytes as a list: what each hands back is what the definition finds. Assumes nothing.
use Rattle.std.specs.Prelude.{None, Option, Some}
use Rattle.logic.specs.Laws.Answer.{some-is}
use Rattle.reader.specs.declared.NodesRead.{NodesRead}
use mathlib.Core.Path.{◌≡◌, refl, sym, ap, ◌∙◌}
use mathlib.Core.List.{List, [], ◌∷◌, ◌++◌, append_assoc}
use mathlib.Core.Bool.{Bool, true, false, cond}
use Prim.Native.Nat.{ℕ, zero, suc, ◌+◌, ◌-◌, ◌/◌, ◌≤◌, ◌<◌}
use native.Mathlib.Omega.{arith}
use native.Mathlib.Numerals.{add-one, one-add}
use native.Mathlib.Nat.{zero-mul}
use lib.ListN.{length, drop, get_or, length-append, length-drop, drop_of_length-le}
use lib.Seq.{drop-cons}
use lib.Dec.{eqb}
use borrow.Author.Tests.{lt-ltb, le-ltb, le-leb, lt-leb, eq-eqb, ne_eqb}
use Rattle.reading.specs.declared.Level.{Level}
use Rattle.reading.specs.declared.Level.TheVariants.{Digits}
use Rattle.reading.specs.Reading.{Nodes, end, whole, listed, first, many, room, wholes, render, Some as Any}
use Rattle.reading.specs.Parse.{Parse, bad, got, Item, wrong, bare, held, close, item, add_whole, add_listed, then, parse}
use Rattle.reading.proofs.Laws.Parse.{Right, RightItem, sound, item-right, drop-rest}
use Rattle.reading.specs.Report.{count, size_along}
use Rattle.reading.proofs.Laws.Report.{size-most, count_most}
use Rattle.reader.specs.Internal.NodesRead.{of_nodes, of_node}

-- the byte at a place, and those after it
drop-byte : (s : List ℕ) (at : ℕ) → at < length s → drop at s ≡ get_or s at 0 ∷ drop (at + 1) s
drop-byte s at h = rw (add-one, drop-cons s at 0)

-- the bytes that an item leaves
abbrev pub left : Item → List ℕ
left wrong = []
left (bare rest) = rest
left (held is rest) = rest

-- what holds of the numbers that a node hands back
pub record NodeBounds (s : List ℕ) (at z : ℕ) (i : Item) (next n sum w : ℕ) : Type 0 where
  pub from : at ≤ next
  pub to : next ≤ length s
  pub few : n + at ≤ next + 1
  pub small : sum ≤ z
  pub rest : drop next s ≡ left i

node-bounds : (s : List ℕ) (at d z next n sum w : ℕ) (i : Item) → RightItem d (drop at s) i → at ≤ length s
    → Some (record { next = next; cells = n; sum = sum; wholes = w }) ≡ of_node (length s) z i → NodeBounds s at z i next n sum w
node-bounds s at d z next n sum w wrong r h e = let k : ◌≡◌ {A = ℕ} 0 1 = cc in absurd (omega arith)
node-bounds s at d z next n sum w (bare rest) r h e =
    let e₁ : next ≡ length s - length rest = ap (λ (x : NodesRead). x.next) (some-is e) in
    let e₂ : n ≡ 1 = ap (λ (x : NodesRead). x.cells) (some-is e) in
    let e₃ : sum ≡ z = ap (λ (x : NodesRead). x.sum) (some-is e) in
    let k : length rest ≡ length s - at = sym (ap length r) ∙ length-drop at s in
    record {
      from = omega arith;
      to = omega arith;
      few = omega arith;
      small = omega arith;
      rest = ap (λ (j : ℕ). drop j s) e₁ ∙ drop-rest s [] rest at r;
    }
node-bounds s at d z next n sum w (held is rest) r h e =
    let e₁ : next ≡ length s - length rest = ap (λ (x : NodesRead). x.next) (some-is e) in
    let e₂ : n ≡ count is = ap (λ (x : NodesRead). x.cells) (some-is e) in
    let e₃ : sum ≡ size_along (z / 9) is = ap (λ (x : NodesRead). x.sum) (some-is e) in
    let k : length (drop at s) ≡ length s - at = length-drop at s in
    let k₂ : length (drop at s) ≡ 2 + (length (render Digits is) + length rest) = omega (arith, ap length r.4, length-append (render Digits is) (41 ∷ rest)) in
    record {
      from = omega arith;
      to = omega arith;
      few = omega (arith, count_most is Digits);
      small = omega (arith, size-most is Digits (d - 1) 0 (z / 9) r.3 (omega arith), zero-mul (z / 9));
      rest = ap (λ (j : ℕ). drop j s) e₁ ∙ drop-rest s (40 ∷ (render Digits is ++ (41 ∷ []))) rest at
          (r.4 ∙ ap (λ (t : List ℕ). 40 ∷ t) (sym (append_assoc (render Digits is) (41 ∷ []) rest)));
    }

nodes-bounds : (n z next m sum w : ℕ) (p : Parse) → Some (record { next = next; cells = m; sum = sum; wholes = w }) ≡ of_nodes n z p → next ≤ n
nodes-bounds n z next m sum w bad e = let k : ◌≡◌ {A = ℕ} 0 1 = cc in absurd (omega arith)
nodes-bounds n z next m sum w (got ns rest) e = let e₁ : next ≡ n - length rest = ap (λ (x : NodesRead). x.next) (some-is e) in omega arith

-- the list reader
module _ (s : List ℕ) (at lo : ℕ) (l : Level) (d z : ℕ) where
  pub nodes-end : at ≡ length s → (n : ℕ) → length s - at < n → Some (record { next = at; cells = 0; sum = 0; wholes = 0 }) ≡ of_nodes (length s) z (parse n l d lo (drop at s))
  unfolding parse
  nodes-end e zero h = absurd (omega arith)
  nodes-end e (suc n) h = rw (drop_of_length-le s {i = at} (omega arith)) (ap (λ (k : ℕ). Some (record { next = k; cells = 0; sum = 0; wholes = 0 })) (omega arith))

  pub nodes-close : at < length s → get_or s at 0 ≡ 41 → (n : ℕ) → length s - at < n → Some (record { next = at; cells = 0; sum = 0; wholes = 0 }) ≡ of_nodes (length s) z (parse n l d lo (drop at s))
  unfolding parse
  nodes-close a e zero h = absurd (omega arith)
  nodes-close a e (suc n) h = rw (drop-byte s at a, eq-eqb (get_or s at 0) 41 e) (ap (λ (k : ℕ). Some (record { next = k; cells = 0; sum = 0; wholes = 0 })) (omega (arith, length-drop (at + 1) s)))

  pub nodes-low : at < length s → (get_or s at 0 ≡ 41 → ⊥) → get_or s at 0 < first l + lo → (n : ℕ) → length s - at < n → None ≡ of_nodes (length s) z (parse n l d lo (drop at s))
  unfolding parse
  nodes-low a e f zero h = absurd (omega arith)
  nodes-low a e f (suc n) h = rw (drop-byte s at a, ne_eqb (get_or s at 0) 41 e, lt-leb (first l + lo) (get_or s at 0) f)

  pub nodes-high :
      at < length s → (get_or s at 0 ≡ 41 → ⊥) → first l + lo ≤ get_or s at 0 → first l + many l ≤ get_or s at 0 → (n : ℕ) → length s - at < n →
      None ≡ of_nodes (length s) z (parse n l d lo (drop at s))
  unfolding parse
  nodes-high a e f g zero h = absurd (omega arith)
  nodes-high a e f g (suc n) h = rw (drop-byte s at a, ne_eqb (get_or s at 0) 41 e, le-leb (first l + lo) (get_or s at 0) f, le-ltb (get_or s at 0) (first l + many l) g)

-- the node reader
module _ (s : List ℕ) (at d z : ℕ) where
  pub node_end : at ≡ length s → (n : ℕ) → Some (record { next = at; cells = 1; sum = z; wholes = 1 }) ≡ of_node (length s) z (item (λ e cs. parse n Digits e 0 cs) d (drop at s))
  unfolding item
  node_end e n = rw (drop_of_length-le s {i = at} (omega arith)) (ap (λ (k : ℕ). Some (record { next = k; cells = 1; sum = z; wholes = 1 })) (omega arith))

  pub node-bare : at < length s → (get_or s at 0 ≡ 40 → ⊥) → (n : ℕ) → Some (record { next = at; cells = 1; sum = z; wholes = 1 }) ≡ of_node (length s) z (item (λ e cs. parse n Digits e 0 cs) d (drop at s))
  unfolding item
  node-bare a e n = rw (drop-byte s at a, ne_eqb (get_or s at 0) 40 e) (ap (λ (k : ℕ). Some (record { next = k; cells = 1; sum = z; wholes = 1 })) (omega (arith, length-drop (at + 1) s)))

  pub node-none : at < length s → get_or s at 0 ≡ 40 → d ≡ 0 → (n : ℕ) → None ≡ of_node (length s) z (item (λ e cs. parse n Digits e 0 cs) d (drop at s))
  unfolding item
  node-none a e f n = rw (drop-byte s at a, eq-eqb (get_or s at 0) 40 e, eq-eqb d 0 f)

  node-held : at < length s → get_or s at 0 ≡ 40 → (d ≡ 0 → ⊥) → (n : ℕ)
      → item (λ e cs. parse n Digits e 0 cs) d (drop at s) ≡ close (parse n Digits (d - 1) 0 (drop (at + 1) s))
  unfolding item
  node-held a e f n = rw (drop-byte s at a, eq-eqb (get_or s at 0) 40 e, ne_eqb d 0 f)

close-cut : (ns : Nodes) → close (got ns []) ≡ wrong
unfolding close
close-cut end = refl
close-cut (whole c ns) = refl
close-cut (listed c is ns) = refl

close-some : (ns : Nodes) (b : ℕ) (rest : List ℕ) → Any ns → close (got ns (b ∷ rest)) ≡ cond (eqb (wholes ns) 9) wrong (held ns rest)
unfolding close
close-some end b rest h = absurd h
close-some (whole c ns) b rest h = refl
close-some (listed c is ns) b rest h = refl

close-end : (ns : Nodes) (rest : List ℕ) → length (render Digits ns) ≡ 0 → close (got ns rest) ≡ wrong
unfolding close
close-end end rest h = refl
close-end (whole c ns) rest h = absurd (omega arith)
close-end (listed c is ns) rest h = absurd (omega arith)

some_of : (ns : Nodes) → (length (render Digits ns) ≡ 0 → ⊥) → Any ns
some_of end h = absurd (h refl)
some_of (whole c ns) h = tt
some_of (listed c is ns) h = tt

-- behind a `(` there is no whole node
held_none : (n z next m sum w : ℕ) (is : Nodes) (rest : List ℕ) (t : Bool) → Some (record { next = next; cells = m; sum = sum; wholes = w }) ≡ of_node n z (cond t wrong (held is rest)) → w ≡ 0
held_none n z next m sum w is rest true e = let k : ◌≡◌ {A = ℕ} 0 1 = cc in absurd (omega arith)
held_none n z next m sum w is rest false e = ap (λ (x : NodesRead). x.wholes) (some-is e)

close-held : (n z next m sum w : ℕ) (p : Parse) → Some (record { next = next; cells = m; sum = sum; wholes = w }) ≡ of_node n z (close p) → w ≡ 0
unfolding close
close-held n z next m sum w bad e = let k : ◌≡◌ {A = ℕ} 0 1 = cc in absurd (omega arith)
close-held n z next m sum w (got end rest) e = let k : ◌≡◌ {A = ℕ} 0 1 = cc in absurd (omega arith)
close-held n z next m sum w (got (whole c ns) []) e = let k : ◌≡◌ {A = ℕ} 0 1 = cc in absurd (omega arith)
close-held n z next m sum w (got (whole c ns) (b ∷ rest)) e = held_none n z next m sum w (whole c ns) rest (eqb (wholes (whole c ns)) 9) e
close-held n z next m sum w (got (listed c is ns) []) e = let k : ◌≡◌ {A = ℕ} 0 1 = cc in absurd (omega arith)
close-held n z next m sum w (got (listed c is ns) (b ∷ rest)) e = held_none n z next m sum w (listed c is ns) rest (eqb (wholes (listed c is ns)) 9) e

module _ (s : List ℕ) (from d z : ℕ) where
  close-bad : (p : Parse) → None ≡ of_nodes (length s) (z / 9) p → None ≡ of_node (length s) z (close p)
  unfolding close
  close-bad bad e = refl
  close-bad (got ns rest) e = let k : ◌≡◌ {A = ℕ} 0 1 = cc in absurd (omega arith)

  -- no node was read
  close-none : (next n sum w : ℕ) (p : Parse) → Right Digits d 0 (drop from s) p → from ≤ length s → Some (record { next = next; cells = n; sum = sum; wholes = w }) ≡ of_nodes (length s) (z / 9) p
      → next ≡ from → None ≡ of_node (length s) z (close p)
  unfolding close
  close-none next n sum w bad r h e f = refl
  close-none next n sum w (got ns rest) r h e f =
      let e₁ : next ≡ length s - length rest = ap (λ (x : NodesRead). x.next) (some-is e) in
      let k : length (render Digits ns) ≡ 0 = omega (arith, length-drop from s, ap length r.1, length-append (render Digits ns) rest) in
      rw (close-end ns rest k)

  -- the bytes end before the list does
  close-short : (next n sum w : ℕ) (p : Parse) → Right Digits d 0 (drop from s) p → from ≤ length s → Some (record { next = next; cells = n; sum = sum; wholes = w }) ≡ of_nodes (length s) (z / 9) p
      → next ≡ length s → None ≡ of_node (length s) z (close p)
  unfolding close
  close-short next n sum w bad r h e f = refl
  close-short next n sum w (got ns []) r h e f = rw (close-cut ns)
  close-short next n sum w (got ns (b ∷ rest)) r h e f =
      let e₁ : next ≡ length s - suc (length rest) = ap (λ (x : NodesRead). x.next) (some-is e) in
      absurd (omega (arith, length-drop from s, ap length r.1, length-append (render Digits ns) (b ∷ rest)))

  -- nine whole nodes
  close-nine : (next n sum w : ℕ) (p : Parse) → Right Digits d 0 (drop from s) p → from ≤ length s → Some (record { next = next; cells = n; sum = sum; wholes = w }) ≡ of_nodes (length s) (z / 9) p
      → (next ≡ from → ⊥) → w ≡ 9 → None ≡ of_node (length s) z (close p)
  unfolding close
  close-nine next n sum w bad r h e g f = refl
  close-nine next n sum w (got ns []) r h e g f = rw (close-cut ns)
  close-nine next n sum w (got ns (b ∷ rest)) r h e g f =
      let e₁ : next ≡ length s - suc (length rest) = ap (λ (x : NodesRead). x.next) (some-is e) in
      let e₂ : wholes ns ≡ 9 = sym (ap (λ (x : NodesRead). x.wholes) (some-is e)) ∙ f in
      let k : Any ns = some_of ns (λ q. g (omega (arith, length-drop from s, ap length r.1, length-append (render Digits ns) (b ∷ rest)))) in
      rw (close-some ns b rest k, eq-eqb (wholes ns) 9 e₂)

  -- a list of the grammar
  close-read : (next n sum w : ℕ) (p : Parse) → Right Digits d 0 (drop from s) p → from ≤ length s → Some (record { next = next; cells = n; sum = sum; wholes = w }) ≡ of_nodes (length s) (z / 9) p
      → (next ≡ from → ⊥) → (next ≡ length s → ⊥) → (w ≡ 9 → ⊥) → Some (record { next = next + 1; cells = n; sum = sum; wholes = 0 }) ≡ of_node (length s) z (close p)
  unfolding close
  close-read next n sum w bad r h e g g' f = let k : ◌≡◌ {A = ℕ} 0 1 = cc in absurd (omega arith)
  close-read next n sum w (got ns []) r h e g g' f = let e₁ : next ≡ length s - 0 = ap (λ (x : NodesRead). x.next) (some-is e) in absurd (g' (omega arith))
  close-read next n sum w (got ns (b ∷ rest)) r h e g g' f =
      let e₁ : next ≡ length s - suc (length rest) = ap (λ (x : NodesRead). x.next) (some-is e) in
      let e₂ : w ≡ wholes ns = ap (λ (x : NodesRead). x.wholes) (some-is e) in
      let k : Any ns = some_of ns (λ q. g (omega (arith, length-drop from s, ap length r.1, length-append (render Digits ns) (b ∷ rest)))) in
      let e₃ : next + 1 ≡ length s - length rest = omega (arith, length-drop from s, ap length r.1, length-append (render Digits ns) (b ∷ rest)) in
      let e₄ : n ≡ count ns = ap (λ (x : NodesRead). x.cells) (some-is e) in
      let e₅ : sum ≡ size_along (z / 9) ns = ap (λ (x : NodesRead). x.sum) (some-is e) in
      rw (close-some ns b rest k, ne_eqb (wholes ns) 9 (λ q. f (e₂ ∙ q))) (ap Some (λ i. record { next = e₃ i; cells = e₄ i; sum = e₅ i; wholes = 0 }))

-- what was read, and then what the list reader hands back of the rest
abbrev pub plus : ℕ → ℕ → ℕ → Option NodesRead → Option NodesRead
plus n sum w None = None
plus n sum w (Some x) = Some (record { next = x.next; cells = n + x.cells; sum = sum + x.sum; wholes = w + x.wholes })

module _ (n z c : ℕ) (k : List ℕ → Parse) where
  add_whole-more : (p : Parse) → plus 1 z 1 (of_nodes n z p) ≡ of_nodes n z (add_whole c p)
  unfolding add_whole
  add_whole-more bad = refl
  add_whole-more (got ns rest) = ap (λ (w : ℕ). Some (record { next = n - length rest; cells = 1 + count ns; sum = z + size_along z ns; wholes = w })) (one-add (wholes ns))

  add_listed-more : (is : Nodes) (p : Parse) → plus (count is) (size_along (z / 9) is) 0 (of_nodes n z p) ≡ of_nodes n z (add_listed c is p)
  unfolding add_listed
  add_listed-more is bad = refl
  add_listed-more is (got ns rest) =
      ap (λ (w : ℕ). Some (record { next = n - length rest; cells = count is + count ns; sum = size_along (z / 9) is + size_along z ns; wholes = w })) (omega arith)

  -- the node is wrong
  then-wrong : (i : Item) → None ≡ of_node n z i → None ≡ of_nodes n z (then c k i)
  unfolding then
  then-wrong wrong e = refl
  then-wrong (bare rest) e = let q : ◌≡◌ {A = ℕ} 0 1 = cc in absurd (omega arith)
  then-wrong (held is rest) e = let q : ◌≡◌ {A = ℕ} 0 1 = cc in absurd (omega arith)

  -- the node was read, and the nodes after it are right or wrong
  then-more : (next m sum w : ℕ) (i : Item) → Some (record { next = next; cells = m; sum = sum; wholes = w }) ≡ of_node n z i → (r : Option NodesRead) → r ≡ of_nodes n z (k (left i))
      → plus m sum w r ≡ of_nodes n z (then c k i)
  unfolding then
  then-more next m sum w wrong e r f = let q : ◌≡◌ {A = ℕ} 0 1 = cc in absurd (omega arith)
  then-more next m sum w (bare rest) e r f =
      let e₁ : m ≡ 1 = ap (λ (x : NodesRead). x.cells) (some-is e) in
      let e₂ : sum ≡ z = ap (λ (x : NodesRead). x.sum) (some-is e) in
      let e₃ : w ≡ 1 = ap (λ (x : NodesRead). x.wholes) (some-is e) in
      rw (e₁, e₂, e₃, f) (add_whole-more (k rest))
  then-more next m sum w (held is rest) e r f =
      let e₁ : m ≡ count is = ap (λ (x : NodesRead). x.cells) (some-is e) in
      let e₂ : sum ≡ size_along (z / 9) is = ap (λ (x : NodesRead). x.sum) (some-is e) in
      let e₃ : w ≡ 0 = ap (λ (x : NodesRead). x.wholes) (some-is e) in
      rw (e₁, e₂, e₃, f) (add_listed-more is (k rest))

-- what the contracts say
abbrev pub NodeF : List ℕ → ℕ → ℕ → ℕ → Option NodesRead → Type 0
NodeF s at d z r = (n : ℕ) → length s - at < n → r ≡ of_node (length s) z (item (λ e cs. parse n Digits e 0 cs) d (drop at s))

abbrev pub NodesF : List ℕ → ℕ → ℕ → Level → ℕ → ℕ → Option NodesRead → Type 0
NodesF s at lo l d z r = (n : ℕ) → length s - at < n → r ≡ of_nodes (length s) z (parse n l d lo (drop at s))

pub node-known : (s : List ℕ) (at d z next n sum w : ℕ) (r : Option NodesRead) → at ≤ length s → NodeF s at d z r → r ≡ Some (record { next = next; cells = n; sum = sum; wholes = w }) → (m : ℕ) → length s - at < m
    → NodeBounds s at z (item (λ e cs. parse m Digits e 0 cs) d (drop at s)) next n sum w
node-known s at d z next n sum w r h f e m k =
    node-bounds s at d z next n sum w (item (λ e cs. parse m Digits e 0 cs) d (drop at s))
    (item-right (λ e cs. parse m Digits e 0 cs) (λ e cs. sound m Digits e 0 cs) d (drop at s)) h (sym e ∙ f m k)

pub nodes-known : (s : List ℕ) (at lo : ℕ) (l : Level) (d z next n sum w : ℕ) (r : Option NodesRead) → NodesF s at lo l d z r → r ≡ Some (record { next = next; cells = n; sum = sum; wholes = w }) → next ≤ length s
nodes-known s at lo l d z next n sum w r f e =
    let m : ℕ = suc (length s) in
    nodes-bounds (length s) z next n sum w (parse m l d lo (drop at s)) (sym e ∙ f m (omega arith))

pub node-list : (s : List ℕ) (at d z next n sum w : ℕ) (r : Option NodesRead) → at < length s → get_or s at 0 ≡ 40 → NodeF s at d z r → r ≡ Some (record { next = next; cells = n; sum = sum; wholes = w }) → w ≡ 0
unfolding item
node-list s at d z next n sum w r a e f b =
    let m : ℕ = suc (length s) in
    let p : Parse = parse m Digits (d - 1) 0 (drop (at + 1) s) in
    let i : item (λ e cs. parse m Digits e 0 cs) d (drop at s) ≡ cond (eqb d 0) wrong (close p) = rw (drop-byte s at a, eq-eqb (get_or s at 0) 40 e) in
    go (eqb d 0) p (sym b ∙ f m (omega arith) ∙ ap (of_node (length s) z) i)
  where
    go : (t : Bool) (p : Parse) → Some (record { next = next; cells = n; sum = sum; wholes = w }) ≡ of_node (length s) z (cond t wrong (close p)) → w ≡ 0
    go true p q = let k : ◌≡◌ {A = ℕ} 0 1 = cc in absurd (omega arith)
    go false p q = close-held (length s) z next n sum w p q

-- the node reader at a `(`
module _ (s : List ℕ) (at d z : ℕ) (r : Option NodesRead) (a : at < length s) (e : get_or s at 0 ≡ 40) (f : d ≡ 0 → ⊥) (h : NodesF s (at + 1) 0 Digits (d - 1) (z / 9) r) where
  pub node-bad : r ≡ None → NodeF s at d z None
  node-bad b n k = rw (node-held s at d z a e f n) (close-bad s (at + 1) (d - 1) z (parse n Digits (d - 1) 0 (drop (at + 1) s)) (sym b ∙ h n (omega arith)))

  module _ (next m sum w : ℕ) (b : r ≡ Some (record { next = next; cells = m; sum = sum; wholes = w })) where
    pub node-empty : next ≡ at + 1 → NodeF s at d z None
    node-empty q n k = rw (node-held s at d z a e f n)
        (close-none s (at + 1) (d - 1) z next m sum w (parse n Digits (d - 1) 0 (drop (at + 1) s)) (sound n Digits (d - 1) 0 (drop (at + 1) s)) (omega arith) (sym b ∙ h n (omega arith)) q)

    pub node-short : next ≡ length s → NodeF s at d z None
    node-short q n k = rw (node-held s at d z a e f n)
        (close-short s (at + 1) (d - 1) z next m sum w (parse n Digits (d - 1) 0 (drop (at + 1) s)) (sound n Digits (d - 1) 0 (drop (at + 1) s)) (omega arith) (sym b ∙ h n (omega arith)) q)

    pub node-nine : (next ≡ at + 1 → ⊥) → w ≡ 9 → NodeF s at d z None
    node-nine q q' n k = rw (node-held s at d z a e f n)
        (close-nine s (at + 1) (d - 1) z next m sum w (parse n Digits (d - 1) 0 (drop (at + 1) s)) (sound n Digits (d - 1) 0 (drop (at + 1) s)) (omega arith) (sym b ∙ h n (omega arith)) q q')

    pub node-read : (next ≡ at + 1 → ⊥) → (next ≡ length s → ⊥) → (w ≡ 9 → ⊥) → NodeF s at d z (Some (record { next = next + 1; cells = m; sum = sum; wholes = 0 }))
    node-read q q' q'' n k = rw (node-held s at d z a e f n)
        (close-read s (at + 1) (d - 1) z next m sum w (parse n Digits (d - 1) 0 (drop (at + 1) s)) (sound n Digits (d - 1) 0 (drop (at + 1) s)) (omega arith) (sym b ∙ h n (omega arith)) q q' q'')

-- the list reader at a node's letter or digit, of number c, with the room under it
module _ (s : List ℕ) (at lo : ℕ) (l : Level) (d z c under : ℕ) (r : Option NodesRead) (a : at < length s) (e : get_or s at 0 ≡ 41 → ⊥) (f : first l + lo ≤ get_or s at 0)
    (g : get_or s at 0 < first l + many l)
    (ec : c ≡ get_or s at 0 - first l) (eu : under ≡ room l c d) (h : NodeF s (at + 1) under z r) where
  nodes-step : (n : ℕ)
      → parse (suc n) l d lo (drop at s) ≡ then c (λ rest. parse n l d (c + 1) rest) (item (λ e cs. parse n Digits e 0 cs) under (drop (at + 1) s))
  unfolding parse
  nodes-step n = rw (drop-byte s at a, ne_eqb (get_or s at 0) 41 e, le-leb (first l + lo) (get_or s at 0) f, lt-ltb (get_or s at 0) (first l + many l) g, ← ec, eu, add-one c)

  pub nodes-wrong : r ≡ None → NodesF s at lo l d z None
  nodes-wrong b zero k = absurd (omega arith)
  nodes-wrong b (suc n) k = rw (nodes-step n) (then-wrong (length s) z c (λ rest. parse n l d (c + 1) rest) (item (λ e cs. parse n Digits e 0 cs) under (drop (at + 1) s))
      (sym b ∙ h n (omega arith)))

  pub nodes-more : (next m sum w : ℕ) → r ≡ Some (record { next = next; cells = m; sum = sum; wholes = w }) → (r₂ : Option NodesRead) → NodesF s next (c + 1) l d z r₂ → NodesF s at lo l d z (plus m sum w r₂)
  nodes-more next m sum w b r₂ h₂ zero k = absurd (omega arith)
  nodes-more next m sum w b r₂ h₂ (suc n) k =
      let o : NodeBounds s (at + 1) z (item (λ e cs. parse n Digits e 0 cs) under (drop (at + 1) s)) next m sum w = node-known s (at + 1) under z next m sum w r (omega arith) h b n (omega arith) in
      rw (nodes-step n)
      (then-more (length s) z c (λ rest. parse n l d (c + 1) rest) next m sum w (item (λ e cs. parse n Digits e 0 cs) under (drop (at + 1) s)) (sym b ∙ h n (omega arith))
      r₂ (rw (← o.rest) (h₂ n (omega (arith, o.from)))))
