-- The numbers of a looser body stand for the tests over its letters and digits. Assumes nothing.
use Rattle.std.specs.Prelude.{◌≡◌, Bool, ◌&&◌, ◌||◌, not, cond, ◌⊎◌, eqb, leb}
use Rattle.std.proofs.Math.Path.{refl, sym, ap}
use Rattle.std.proofs.Common.{ap₂, ◌∙◌, inl, inr, ⊎_elim, zero-mul, add-mul, mul_assoc, mul_comm, pow-suc, ne_eqb, eq-eqb, lt-ltb, le-ltb, le-leb}
use Rattle.std.proofs.Math.Bool.{true, false}
use mathlib.Core.List.{List, [], ◌∷◌, ◌++◌, append_assoc, append-nil}
use Prim.Native.Nat.{ℕ, zero, suc, ◌+◌, ◌-◌, ◌*◌, ◌/◌, ◌%◌, ◌^◌, ◌≤◌, ◌<◌}
use native.Mathlib.Omega.{arith}
use Rattle.std.proofs.Math.Dec.{ltb}
use Rattle.std.proofs.Math.ListN.{length, length-append}
use Rattle.std.proofs.lemmas.Bool.{lt-leb}
use Rattle.logic.specs.Laws.Order.{lt-or}
use Rattle.ternary.specs.Digits.{value, Below}
use Rattle.cell.specs.declared.Arrangement.{Arrangement}
use Rattle.code.specs.Number.{code_as}
use Rattle.code.proofs.Laws.Number.{code-as}
use Rattle.reading.specs.declared.Level.{Level}
use Rattle.reading.specs.declared.Level.TheVariants.{Faces, Belt, Digits}
use Rattle.reading.specs.Reading.{Nodes, end, whole, listed, first, many, render}
use Rattle.reading.specs.Ground.{cell_named}
use Rattle.reading.specs.Prefix.{Name, IsName}
use Rattle.reading.proofs.Laws.Named as named-laws
use Rattle.walk.specs.declared.Spot.{Spot}
use Rattle.walk.specs.Walk.{spot, spot_of, after, opens, whole_at, last_in}
use Rattle.walk.specs.Laws.Walk.{opens-nodes, not-open, not-shut, below-nine, after-name, whole-name, last-in, named, named-cells}
use Rattle.reading.specs.Loose.{Loose}
use Rattle.listing.proofs.Laws.List.{spot_code}
use Rattle.proper.specs.Changes.{Item, Change, when, is_end, items}
use Rattle.rescue.specs.Internal.Marks.{first_kind, fourth_kind, late_at, shuts, mask_of, met_own, masks, kinds_at, changes_in, code_named, item_changes, tested, own_after, all_after}

-- ---- the number of one byte

kinds-mask : (a b d : Bool) (p : ℕ) → kinds_at p (mask_of a b d) ≡ item_changes a b d false p
unfolding kinds_at mask_of
kinds-mask true true true p = refl
kinds-mask true true false p = refl
kinds-mask true false true p = refl
kinds-mask true false false p = refl
kinds-mask false true true p = refl
kinds-mask false true false p = refl
kinds-mask false false true p = refl
kinds-mask false false false p = refl

kinds-void : (v : Bool) (p : ℕ) → kinds_at p (cond v 8 0) ≡ when v (record { place = p; kind = 3 })
unfolding kinds_at
kinds-void true p = refl
kinds-void false p = refl

kinds-none : (p : ℕ) → kinds_at p 0 ≡ []
unfolding kinds_at
kinds-none p = refl

item-void : (a b d v : Bool) (p : ℕ) → item_changes a b d false p ++ when v (record { place = p + 1; kind = 3 }) ≡ item_changes a b d v p
item-void true true true v p = refl
item-void true true false v p = refl
item-void true false true v p = refl
item-void true false false v p = refl
item-void false true true v p = refl
item-void false true false v p = refl
item-void false false true v p = refl
item-void false false false v p = refl

tested-append :
    (ar : Arrangement) (ms as' : List ℕ) (xs ys : List Item) (own all : List ℕ) →
    tested ar ms as' own all (xs ++ ys) ≡ tested ar ms as' own all xs ++ tested ar ms as' (own_after ar own xs) (all_after ar all xs) ys
unfolding tested own_after all_after
tested-append ar ms as' [] ys own all = refl
tested-append ar ms as' (e ∷ xs) ys own all =
    let h : List Change = item_changes (first_kind e.own (code_named ar e.name) ms own) e.late (fourth_kind (code_named ar e.name) as' all) e.void e.place in
    ap (λ (x : List Change). h ++ x) (tested-append ar ms as' xs ys (met_own e.own (code_named ar e.name) own) (code_named ar e.name ∷ all))
    ∙ sym (append_assoc h _ _)

own-append : (ar : Arrangement) (xs ys : List Item) (own : List ℕ) → own_after ar own (xs ++ ys) ≡ own_after ar (own_after ar own xs) ys
unfolding own_after
own-append ar [] ys own = refl
own-append ar (e ∷ xs) ys own = own-append ar xs ys (met_own e.own (code_named ar e.name) own)

all_append : (ar : Arrangement) (xs ys : List Item) (all : List ℕ) → all_after ar all (xs ++ ys) ≡ all_after ar (all_after ar all xs) ys
unfolding all_after
all_append ar [] ys all = refl
all_append ar (e ∷ xs) ys all = all_append ar xs ys (code_named ar e.name ∷ all)

-- ---- one byte on

module _ (ar : Arrangement) (ms as' : List ℕ) where
  unfoldable pub from : (p prev k n : ℕ) (own all bs : List ℕ) → List Change
  from p prev k n own all bs = changes_in p (masks ar ms as' prev (spot k n) own all bs)

  step-name :
      (c : ℕ) (l : Level) → c < many l → (p prev k n : ℕ) (own all bs : List ℕ) →
      from p prev k n own all ((first l + c) ∷ bs) ≡
      item_changes (first_kind (not (opens bs)) (code_as ar k (n / 9 * 9 + c)) ms own) (late_at prev n (n / 9 * 9 + c)) (fourth_kind (code_as ar k (n / 9 * 9 + c)) as' all) false p ++
      from (p + 1) (first l + c) k (n / 9 * 9 + c) (met_own (not (opens bs)) (code_as ar k (n / 9 * 9 + c)) own) (code_as ar k (n / 9 * 9 + c) ∷ all) bs
  unfolding from masks changes_in
  step-name c l h p prev k n own all bs =
      rw (not-open c l, not-shut c l, after-name c l h k n, whole-name c l bs)
      (ap (λ (x : List Change). x ++
      changes_in (p + 1) (masks ar ms as' (first l + c) (spot k (n / 9 * 9 + c)) (met_own (not (opens bs)) (code_as ar k (n / 9 * 9 + c)) own) (code_as ar k (n / 9 * 9 + c) ∷ all) bs))
      (kinds-mask (first_kind (not (opens bs)) (code_as ar k (n / 9 * 9 + c)) ms own) (late_at prev n (n / 9 * 9 + c)) (fourth_kind (code_as ar k (n / 9 * 9 + c)) as' all) p))

  step-open :
      (p prev k n : ℕ) (own all bs : List ℕ) →
      from p prev k n own all (40 ∷ bs) ≡ when (shuts bs) (record { place = p; kind = 3 }) ++ from (p + 1) 40 (k + 1) (n * 9) own all bs
  unfolding from masks changes_in after
  step-open p prev k n own all bs = ap (λ (x : List Change). x ++ changes_in (p + 1) (masks ar ms as' 40 (spot (k + 1) (n * 9)) own all bs)) (kinds-void (shuts bs) p)

  step-shut : (p prev k n : ℕ) (own all bs : List ℕ) → from p prev (k + 1) n own all (41 ∷ bs) ≡ from (p + 1) 41 k (n / 9) own all bs
  unfolding from masks changes_in after
  step-shut p prev k n own all bs =
      let e : k + 1 - 1 ≡ k = omega arith in
      rw e (ap (λ (x : List Change). x ++ changes_in (p + 1) (masks ar ms as' 41 (spot k (n / 9)) own all bs)) (kinds-none p))

-- ---- a letter or digit and the one right before it

abbrev pub Prev : (prev n lo : ℕ) → Type 0
Prev prev n lo = ((prev ≡ 40) × (lo ≡ 0)) ⊎ ((prev ≡ 40 → ⊥) × (lo ≡ suc (n % 9)))

late_is : (prev n lo c : ℕ) → c < 9 → Prev prev n lo → late_at prev n (n / 9 * 9 + c) ≡ ltb c lo
unfolding late_at
late_is prev n lo c h (inl e) = rw (eq-eqb prev 40 e.0, e.1) (sym (le-ltb c 0 (omega arith)))
late_is prev n lo c h (inr e) =
    rw (ne_eqb prev 40 e.0, e.1)
    (⊎_elim (λ g. lt-leb (n / 9 * 9 + c) n (omega arith) ∙ sym (le-ltb c (suc (n % 9)) (omega arith)))
    (λ g. le-leb (n / 9 * 9 + c) n (omega arith) ∙ sym (lt-ltb c (suc (n % 9)) (omega arith))) (lt-or (n % 9) c))

first-big : (l : Level) (c : ℕ) → first l + c ≡ 40 → ⊥
first-big Faces c e = omega arith
first-big Belt c e = omega arith
first-big Digits c e = omega arith

after-prev : (l : Level) (c n : ℕ) → c < 9 → Prev (first l + c) (n / 9 * 9 + c) (suc c)
after-prev l c n h = inr (first-big l c, omega arith)

-- ---- where the walk stands, by name

value-last : (w : Name) (c : ℕ) → value 9 (w ++ (c ∷ [])) ≡ value 9 w * 9 + c
unfolding value
value-last [] c = omega arith
value-last (x ∷ w) c =
    let n : ℕ = 9 ^ length w in
    let e : length (w ++ (c ∷ [])) ≡ suc (length w) = length-append w (c ∷ []) ∙ omega arith in
    let f : 9 ^ length (w ++ (c ∷ [])) ≡ n * 9 = ap (λ (y : ℕ). 9 ^ y) e ∙ pow-suc 9 (length w) in
    let g : x * 9 ^ length (w ++ (c ∷ [])) ≡ x * n * 9 = ap (λ (y : ℕ). x * y) f ∙ sym (mul_assoc x n 9) in
    let k = value-last w c in
    let m : (x * n + value 9 w) * 9 ≡ x * n * 9 + value 9 w * 9 = add-mul (x * n) (value 9 w) 9 in
    omega arith

below_more : (q : Name) (c : ℕ) → Below 9 q → c < 9 → Below 9 (q ++ (c ∷ []))
below_more [] c b h = (h, tt)
below_more (x ∷ q) c b h = (b.0, below_more q c b.1 h)

pub name-more : (q : Name) (c : ℕ) → IsName 6 15 q → length q ≤ 15 → c < 9 → IsName 6 15 (q ++ (c ∷ []))
name-more [] c i h k = absurd i
name-more (x ∷ q) c i h k = (i.0, omega (arith, length-append q (c ∷ [])), below_more q c i.2 k)

pub record Where (l : Level) (d k n : ℕ) (w : Name) : Type 0 where
  pub deep : length w ≡ k
  pub number : value 9 w ≡ n / 9
  pub room : k + d ≤ 15
  pub good : (c : ℕ) → c < many l → IsName 6 15 (w ++ (c ∷ []))

-- one name of `named-cells`
named-one : (q : Name) → IsName 6 15 q → named 0 0 q ≡ spot_of (cell_named q)
named-one q n = let e : named 0 0 q ∷ [] ≡ spot_of (cell_named q) ∷ [] = named-cells (q ∷ []) (n, tt) in cc

code_is : (ar : Arrangement) {l : Level} {d k n : ℕ} {w : Name} → Where l d k n w → (c : ℕ) → c < many l → code_as ar k (n / 9 * 9 + c) ≡ code_named ar (w ++ (c ∷ []))
unfolding named
code_is ar {l} {d} {k} {n} {w} v c h =
    let q : Name = w ++ (c ∷ []) in
    let e : named 0 0 q ≡ spot_of (cell_named q) = named-one q (v.good c h) in
    let z : 0 * 9 ^ length q ≡ 0 = zero-mul (9 ^ length q) in
    let a : 0 + length q - 1 ≡ k = omega (arith, length-append w (c ∷ []), v.deep) in
    let b : 0 * 9 ^ length q + value 9 q ≡ n / 9 * 9 + c = omega (arith, value-last w c, v.number) in
    ap₂ (code_as ar) (sym a) (sym b) ∙ ap (spot_code ar) e ∙ code-as ar (cell_named q) (named-laws.named-cell q (v.good c h))

where-on : {l : Level} {d k n : ℕ} {w : Name} → Where l d k n w → (c : ℕ) → c < 9 → Where l d k (n / 9 * 9 + c) w
where-on v c h = record { deep = v.deep; number = v.number ∙ omega arith; room = v.room; good = v.good }

where-in : {l : Level} {d k n : ℕ} {w : Name} → Where l d k n w → (c : ℕ) → c < many l → 0 < d → Where Digits (d - 1) (k + 1) ((n / 9 * 9 + c) * 9) (w ++ (c ∷ []))
where-in {l} {d} {k} {n} {w} v c h g =
    record {
      deep = length-append w (c ∷ []) ∙ omega (arith, v.deep);
      number = value-last w c ∙ omega (arith, v.number);
      room = omega (arith, v.room);
      good = λ x i. name-more (w ++ (c ∷ [])) x (v.good c h) (omega (arith, length-append w (c ∷ []), v.deep, v.room)) i;
    }

shuts-nodes : (is : Nodes) (bs : List ℕ) → shuts (render Digits is ++ (41 ∷ bs)) ≡ is_end is
shuts-nodes end bs = refl
shuts-nodes (whole c ns) bs = not-shut c Digits
shuts-nodes (listed c js ns) bs = not-shut c Digits

-- ---- over nodes

last_prev : ℕ → Level → Nodes → ℕ
last_prev prev l end = prev
last_prev prev l (whole c ns) = last_prev (first l + c) l ns
last_prev prev l (listed c is ns) = last_prev 41 l ns

module _ (ar : Arrangement) (ms as' : List ℕ) where
  over :
      (ns : Nodes) (l : Level) (d p k n lo prev : ℕ) (w : Name) (own all rest : List ℕ) → Loose l d ns → Where l d k n w → Prev prev n lo → opens rest ≡ false →
      from ar ms as' p prev k n own all (render l ns ++ rest) ≡
      tested ar ms as' own all (items p w lo ns) ++
      from ar ms as' (p + length (render l ns)) (last_prev prev l ns) k (last_in n ns) (own_after ar own (items p w lo ns)) (all_after ar all (items p w lo ns)) rest
  unfolding tested own_after all_after last_prev last_in
  over end l d p k n lo prev w own all rest g v e o =
      let z : p ≡ p + 0 = omega arith in ap (λ (x : ℕ). from ar ms as' x prev k n own all rest) z
  over (whole c ns) l d p k n lo prev w own all rest g v e o =
      let m : ℕ = n / 9 * 9 + c in
      let h : c < 9 = below-nine c l g.0 in
      let q : ℕ = code_named ar (w ++ (c ∷ [])) in
      let z : code_as ar k m ≡ q = code_is ar v c g.0 in
      let y : opens (render l ns ++ rest) ≡ false = opens-nodes ns l rest o in
      let t : late_at prev n m ≡ ltb c lo = late_is prev n lo c h e in
      let a : from ar ms as' p prev k n own all ((first l + c) ∷ (render l ns ++ rest)) ≡
      item_changes (first_kind true q ms own) (ltb c lo) (fourth_kind q as' all) false p ++ from ar ms as' (p + 1) (first l + c) k m (q ∷ own) (q ∷ all) (render l ns ++ rest) =
      step-name ar ms as' c l g.0 p prev k n own all (render l ns ++ rest) ∙ rw (y, z, t) in
      let b = over ns l d (p + 1) k m (suc c) (first l + c) w (q ∷ own) (q ∷ all) rest g.1 (where-on v c h) (after-prev l c n h) o in
      let r : p + 1 + length (render l ns) ≡ p + suc (length (render l ns)) = omega arith in
      a ∙ ap (λ (x : List Change). item_changes (first_kind true q ms own) (ltb c lo) (fourth_kind q as' all) false p ++ x) (b ∙ rw r)
      ∙ sym (append_assoc (item_changes (first_kind true q ms own) (ltb c lo) (fourth_kind q as' all) false p) _ _)
  over (listed c is ns) l d p k n lo prev w own all rest g v e o =
      let m : ℕ = n / 9 * 9 + c in
      let h : c < 9 = below-nine c l g.0 in
      let u : Name = w ++ (c ∷ []) in
      let q : ℕ = code_named ar (w ++ (c ∷ [])) in
      let z : code_as ar k m ≡ q = code_is ar v c g.0 in
      let t : late_at prev n m ≡ ltb c lo = late_is prev n lo c h e in
      let tail : List ℕ = 41 ∷ (render l ns ++ rest) in
      let inner : List ℕ = render Digits is ++ tail in
      let xs : List Item = items (p + 2) u 0 is in
      let ys : List Item = items (p + 3 + length (render Digits is)) w (suc c) ns in
      let own₁ : List ℕ = own_after ar own xs in
      let all₁ : List ℕ = all_after ar (q ∷ all) xs in
      let here : List Change = item_changes (first_kind false q ms own) (ltb c lo) (fourth_kind q as' all) (is_end is) p in
      let r₁ : m * 9 / 9 ≡ m = omega arith in
      let shut : last_in (m * 9) is / 9 ≡ m = last-in is Digits (d - 1) (m * 9) g.2 ∙ r₁ in
      let a : from ar ms as' p prev k n own all ((first l + c) ∷ 40 ∷ inner) ≡
      item_changes (first_kind false q ms own) (ltb c lo) (fourth_kind q as' all) false p ++ from ar ms as' (p + 1) (first l + c) k m own (q ∷ all) (40 ∷ inner) =
      step-name ar ms as' c l g.0 p prev k n own all (40 ∷ inner) ∙ rw (z, t) in
      let p₂ : p + 1 + 1 ≡ p + 2 = omega arith in
      let b : from ar ms as' (p + 1) (first l + c) k m own (q ∷ all) (40 ∷ inner) ≡
      when (is_end is) (record { place = p + 1; kind = 3 }) ++ from ar ms as' (p + 2) 40 (k + 1) (m * 9) own (q ∷ all) inner =
      step-open ar ms as' (p + 1) (first l + c) k m own (q ∷ all) inner ∙ rw (shuts-nodes is (render l ns ++ rest), p₂) in
      let i : from ar ms as' (p + 2) 40 (k + 1) (m * 9) own (q ∷ all) inner ≡
      tested ar ms as' own (q ∷ all) xs ++ from ar ms as' (p + 2 + length (render Digits is)) (last_prev 40 Digits is) (k + 1) (last_in (m * 9) is) own₁ all₁ tail =
      over is Digits (d - 1) (p + 2) (k + 1) (m * 9) 0 40 u own (q ∷ all) tail g.2 (where-in v c g.0 g.1) (inl (refl, refl)) refl in
      let p₃ : p + 2 + length (render Digits is) + 1 ≡ p + 3 + length (render Digits is) = omega arith in
      let j : from ar ms as' (p + 2 + length (render Digits is)) (last_prev 40 Digits is) (k + 1) (last_in (m * 9) is) own₁ all₁ tail ≡
      from ar ms as' (p + 3 + length (render Digits is)) 41 k m own₁ all₁ (render l ns ++ rest) =
      step-shut ar ms as' (p + 2 + length (render Digits is)) (last_prev 40 Digits is) k (last_in (m * 9) is) own₁ all₁ (render l ns ++ rest) ∙ rw (shut, p₃) in
      let p₄ : p + 3 + length (render Digits is) + length (render l ns) ≡ p + length (render l (listed c is ns)) =
      omega (arith, length-append (render Digits is) (41 ∷ render l ns)) in
      let f : from ar ms as' (p + 3 + length (render Digits is)) 41 k m own₁ all₁ (render l ns ++ rest) ≡
      tested ar ms as' own₁ all₁ ys ++ from ar ms as' (p + length (render l (listed c is ns))) (last_prev 41 l ns) k (last_in m ns) (own_after ar own₁ ys) (all_after ar all₁ ys) rest =
      over ns l d (p + 3 + length (render Digits is)) k m (suc c) 41 w own₁ all₁ rest g.3 (where-on v c h) (inr ((λ x. omega arith), omega arith)) o ∙ rw p₄ in
      let x₁ : own_after ar own (xs ++ ys) ≡ own_after ar own₁ ys = own-append ar xs ys own in
      let x₂ : all_after ar (q ∷ all) (xs ++ ys) ≡ all_after ar all₁ ys = all_append ar xs ys (q ∷ all) in
      let x₃ : tested ar ms as' own (q ∷ all) (xs ++ ys) ≡ tested ar ms as' own (q ∷ all) xs ++ tested ar ms as' own₁ all₁ ys = tested-append ar ms as' xs ys own (q ∷ all) in
      let end' : List Change = from ar ms as' (p + length (render l (listed c is ns))) (last_prev 41 l ns) k (last_in m ns) (own_after ar own (xs ++ ys)) (all_after ar (q ∷ all) (xs ++ ys)) rest in
      let end_is : from ar ms as' (p + length (render l (listed c is ns))) (last_prev 41 l ns) k (last_in m ns) (own_after ar own₁ ys) (all_after ar all₁ ys) rest ≡ end' = rw (x₁, x₂) in
      let first' : List Change = item_changes (first_kind false q ms own) (ltb c lo) (fourth_kind q as' all) false p in
      let mid : from ar ms as' (p + 2) 40 (k + 1) (m * 9) own (q ∷ all) inner ≡ tested ar ms as' own (q ∷ all) (xs ++ ys) ++ end' =
      i ∙ ap (λ (x : List Change). tested ar ms as' own (q ∷ all) xs ++ x) (j ∙ f ∙ ap (λ (x : List Change). tested ar ms as' own₁ all₁ ys ++ x) end_is)
      ∙ sym (append_assoc (tested ar ms as' own (q ∷ all) xs) (tested ar ms as' own₁ all₁ ys) end')
      ∙ ap (λ (x : List Change). x ++ end') (sym x₃) in
      ap (λ (x : List ℕ). from ar ms as' p prev k n own all ((first l + c) ∷ 40 ∷ x)) (append_assoc (render Digits is) (41 ∷ render l ns) rest)
      ∙ a
      ∙ ap (λ (x : List Change). first' ++ x) (b ∙ ap (λ (x : List Change). when (is_end is) (record { place = p + 1; kind = 3 }) ++ x) mid)
      ∙ sym (append_assoc first' (when (is_end is) (record { place = p + 1; kind = 3 })) (tested ar ms as' own (q ∷ all) (xs ++ ys) ++ end'))
      ∙ ap (λ (x : List Change). x ++ (tested ar ms as' own (q ∷ all) (xs ++ ys) ++ end')) (item-void (first_kind false q ms own) (ltb c lo) (fourth_kind q as' all) (is_end is) p)
      ∙ sym (append_assoc here (tested ar ms as' own (q ∷ all) (xs ++ ys)) end')

  pub marks-tested :
      (ns : Nodes) → Loose Faces 15 ns → changes_in 7 (masks ar ms as' 40 (spot 0 0) [] [] (render Faces ns)) ≡ tested ar ms as' [] [] (items 7 [] 0 ns)
  unfolding from masks changes_in value
  marks-tested ns g =
      ap (λ (x : List ℕ). changes_in 7 (masks ar ms as' 40 (spot 0 0) [] [] x)) (sym (append-nil (render Faces ns)))
      ∙ over ns Faces 15 7 0 0 0 40 [] [] [] [] g start (inl (refl, refl)) refl
      ∙ append-nil (tested ar ms as' [] [] (items 7 [] 0 ns))
    where
      start : Where Faces 15 0 0 []
      start = record { deep = refl; number = refl; room = omega arith; good = λ c h. (h, omega arith, tt) }
