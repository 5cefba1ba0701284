-- The tests by codes in two rising lists are the kinds of change. Assumes nothing.
use Rattle.std.specs.Prelude.{◌≡◌, Bool, true, false, ◌&&◌, cond, ℕ, suc, ◌+◌, ◌-◌, ◌≤◌, ◌<◌, length, drop}
use Rattle.std.proofs.Math.Path.{refl, sym, ap, ap₂}
use Rattle.std.proofs.Common.{◌∙◌, inl, inr, length-append, eqb-true, eq-eqb}
use Rattle.std.proofs.Math.Bool.{◌||◌, not}
use mathlib.Core.List.{List, [], ◌∷◌, ◌++◌, map}
use native.Mathlib.Omega.{arith}
use Rattle.std.proofs.Math.Dec.{eqb}
use Rattle.logic.specs.Rise.{Rise}
use Rattle.logic.specs.Laws.Bools.{same_truth}
use Rattle.cell.specs.declared.Arrangement.{Arrangement}
use Rattle.cell.specs.Cell.{IsArrangement}
use Rattle.code.specs.Code.{code_of, cell_of, is_code, arrangement_of}
use Rattle.code.proofs.Laws.Code.{cell-code, code-cell, code-is-cell}
use Rattle.reading.specs.declared.Level.{Level}
use Rattle.reading.specs.declared.Level.TheVariants.{Faces, Digits}
use Rattle.reading.specs.Reading.{Nodes, end, whole, listed, many, render, names, Good}
use Rattle.reading.specs.Loose.{Loose}
use Rattle.reading.specs.Ground.{cell_named}
use Rattle.reading.specs.Prefix.{Name, numbers_of, IsName, AreNames}
use Rattle.reading.proofs.Laws.Named.{named-cell, name-named, cell-named, cells-named, names-named}
use Rattle.reading.proofs.Laws.Rising.{names-rise, rise-rising, codes-rise}
use Rattle.reading.proofs.Laws.Fewest.{names-good}
use Rattle.writing.proofs.Laws.List.{good-list}
use Rattle.walk.specs.Walk.{origin}
use Rattle.sorting.specs.Sorted.{sorted}
use Rattle.loose.specs.LooseText.{LooseBody}
use Rattle.loose.specs.LooseScan.{loose_nodes}
use Rattle.proper.specs.Proper.{answer}
use Rattle.proper.specs.Changes.{Item, Change, items, same, any, has, names-whole, stands-for, kind_1, kind-4, changes_from, changes}
use Rattle.proper.proofs.Laws.Lists.{IMem, same_true, same_self}
use Rattle.proper.proofs.Laws.Kind.{first_kind_lem, fourth-kind}
use Rattle.proper.proofs.Laws.Left.{name_in, left-largest}
use Rattle.proper.proofs.Laws.Proper.{answer-good}
use Rattle.proper.specs.Thin.{thinned, Coded}
use Rattle.proper.proofs.Laws.Thin.{thinned-coded, thinned-good}
use Rattle.proper.proofs.Laws.Thinned.{codes-sorted}
use Rattle.proper.specs.Wholes.{loose_codes}
use Rattle.rescue.specs.Internal.Marks.{has_code, lacking, standing, first_kind, fourth_kind, met_own, masks, changes_in, code_named, item_changes, tested}
use Rattle.rescue.specs.Internal.Lack.{has-lacking, rise-lacking}
use Rattle.rescue.specs.Internal.Mark.{name-more, marks-tested}

-- ---- names and codes

back : {ar : Arrangement} (v : IsArrangement ar) (q : Name) → IsName 6 15 q → name_in (code_named ar q) ≡ q
back v q n = ap numbers_of (cell-code v (cell_named q) (named-cell q n)) ∙ name-named q n

code-back : {ar : Arrangement} (c : ℕ) → (is_code c ≡ true) × (arrangement_of c ≡ ar) → code_of ar (cell_of c) ≡ c
code-back c i = ap (λ (x : Arrangement). code_of x (cell_of c)) (sym i.1) ∙ code-cell c i.0

module _ {ar : Arrangement} (v : IsArrangement ar) where
  same_code : (p q : Name) → IsName 6 15 p → IsName 6 15 q → same p q ≡ eqb (code_named ar p) (code_named ar q)
  same_code p q n m =
      same_truth (same p q) (eqb (code_named ar p) (code_named ar q)) (λ e. eq-eqb (code_named ar p) (code_named ar q) (ap (code_named ar) (same_true p q e)))
      (λ e.
      let f : p ≡ q = sym (back v p n) ∙ ap name_in (eqb-true (code_named ar p) (code_named ar q) e) ∙ back v q m in
      rw f (same_self q))

  has-names : (ps : List Name) (q : Name) → AreNames 6 15 ps → IsName 6 15 q → has q ps ≡ has_code (code_named ar q) (map (code_of ar) (map cell_named ps))
  unfolding has has_code
  has-names [] q n m = refl
  has-names (p ∷ ps) q n m = ap₂ ◌||◌ (same_code p q n.0 m) (has-names ps q n.1 m)

  same_in : (c : ℕ) (q : Name) → (is_code c ≡ true) × (arrangement_of c ≡ ar) → IsName 6 15 q → same (name_in c) q ≡ eqb c (code_named ar q)
  same_in c q i m =
      same_truth (same (name_in c) q) (eqb c (code_named ar q))
      (λ e.
      let f : name_in c ≡ q = same_true (name_in c) q e in
      eq-eqb c (code_named ar q) (sym (code-back c i) ∙ ap (code_of ar) (sym (cell-named (cell_of c) (code-is-cell c i.0))) ∙ ap (code_named ar) f))
      (λ e.
      let f : name_in c ≡ q = ap name_in (eqb-true c (code_named ar q) e) ∙ back v q m in
      rw f (same_self q))

  has_left : (cs : List ℕ) (q : Name) → Coded ar cs → IsName 6 15 q → has q (map name_in cs) ≡ has_code (code_named ar q) cs
  unfolding has has_code
  has_left [] q d m = refl
  has_left (c ∷ cs) q d m = ap₂ ◌||◌ (same_in c q d.0 m) (has_left cs q d.1 m)

-- ---- the items gone over

abbrev Named : List Item → Type 0
Named [] = Unit {0}
Named (e ∷ es) = IsName 6 15 e.name × Named es

own_codes : Arrangement → List Item → List ℕ
own_codes ar [] = []
own_codes ar (e ∷ es) = met_own e.own (code_named ar e.name) (own_codes ar es)

met_codes : Arrangement → List Item → List ℕ
met_codes ar [] = []
met_codes ar (e ∷ es) = code_named ar e.name ∷ met_codes ar es

any-own : {ar : Arrangement} (v : IsArrangement ar) (es : List Item) (q : Name) → Named es → IsName 6 15 q → any (names-whole q) es ≡ has_code (code_named ar q) (own_codes ar es)
unfolding any has_code own_codes
any-own v [] q n m = refl
any-own {ar} v (e ∷ es) q n m = go e.own (any-own v es q n.1 m)
  where
    go : (t : Bool) → any (names-whole q) es ≡ has_code (code_named ar q) (own_codes ar es) →
        ((t && same e.name q) || any (names-whole q) es) ≡ has_code (code_named ar q) (met_own t (code_named ar e.name) (own_codes ar es))
    go true k = ap₂ ◌||◌ (same_code v e.name q n.0 m) k
    go false k = k

any_met : {ar : Arrangement} (v : IsArrangement ar) (es : List Item) (q : Name) → Named es → IsName 6 15 q → any (stands-for q) es ≡ has_code (code_named ar q) (met_codes ar es)
unfolding any has_code met_codes
any_met v [] q n m = refl
any_met v (e ∷ es) q n m = ap₂ ◌||◌ (same_code v e.name q n.0 m) (any_met v es q n.1 m)

named-append : (xs ys : List Item) → Named xs → Named ys → Named (xs ++ ys)
named-append [] ys a b = b
named-append (x ∷ xs) ys a b = (a.0, named-append xs ys a.1 b)

items-named :
    (ns : Nodes) (l : Level) (d p lo : ℕ) (w : Name) → Loose l d ns → length w + d ≤ 15 → ((c : ℕ) → c < many l → IsName 6 15 (w ++ (c ∷ []))) → Named (items p w lo ns)
items-named end l d p lo w g h f = tt
items-named (whole c ns) l d p lo w g h f = (f c g.0, items-named ns l d (p + 1) (suc c) w g.1 h f)
items-named (listed c is ns) l d p lo w g h f = (
  f c g.0,
  named-append (items (p + 2) (w ++ (c ∷ [])) 0 is) (items (p + 3 + length (render Digits is)) w (suc c) ns)
      (items-named is Digits (d - 1) (p + 2) 0 (w ++ (c ∷ [])) g.2 (omega (arith, length-append w (c ∷ []), h, g.1))
      (λ x i. name-more (w ++ (c ∷ [])) x (f c g.0) (omega (arith, length-append w (c ∷ []), h, g.1)) i))
      (items-named ns l d (p + 3 + length (render Digits is)) (suc c) w g.3 h f),
)

-- ---- the tests

first-test : (w a b : Bool) → (w && (b || not a)) ≡ (w && not (eqb (cond a (cond b 2 1) 0) 1))
first-test true true true = refl
first-test true true false = refl
first-test true false true = refl
first-test true false false = refl
first-test false a b = refl

fourth-test : (a m e : Bool) → (a && (not m && not e)) ≡ eqb (cond (a && not m) (cond e 2 1) 0) 1
fourth-test true true true = refl
fourth-test true true false = refl
fourth-test true false true = refl
fourth-test true false false = refl
fourth-test false true true = refl
fourth-test false true false = refl
fourth-test false false true = refl
fourth-test false false false = refl

module _ {ar : Arrangement} (v : IsArrangement ar) (t : List ℕ) (b : LooseBody (drop 7 t) (loose_nodes (drop 7 t))) where
  abbrev nodes : Nodes
  nodes = loose_nodes (drop 7 t)

  -- the largest whole cells, and the cells of the answer
  abbrev pub largest : List ℕ
  largest = thinned 0 (sorted (loose_codes ar t))

  abbrev pub answers : List ℕ
  answers = map (code_of ar) (map cell_named (names (answer nodes)))

  -- those of the answer that are named whole nowhere
  abbrev pub fresh : List ℕ
  fresh = lacking largest answers

  abbrev all : List Item
  all = items 7 [] 0 nodes

  left-coded : Coded ar largest
  left-coded = thinned-coded ar 0 (sorted (loose_codes ar t)) (codes-sorted v t b)

  good : Good Faces 15 0 (answer nodes)
  good = answer-good nodes b.loose

  answer-names : AreNames 6 15 (names (answer nodes))
  answer-names = names-good (answer nodes) Faces 15 0 15 good (omega arith)

  first-is : (earlier : List Item) (e : Item) → IMem e all → IsName 6 15 e.name → Named earlier → kind_1 all earlier e ≡ first_kind e.own (code_named ar e.name) largest (own_codes ar earlier)
  unfolding first_kind standing
  first-is earlier e i n m =
      first_kind_lem nodes b.loose (map name_in largest) (left-largest v t b) earlier e i
      ∙ ap₂ (λ (x y : Bool). e.own && (x || not y)) (any-own v earlier e.name m n) (has_left v largest e.name left-coded n)
      ∙ first-test e.own (has_code (code_named ar e.name) largest) (has_code (code_named ar e.name) (own_codes ar earlier))

  fourth-is :
      (earlier : List Item) (e : Item) → IsName 6 15 e.name → Named earlier →
      kind-4 (names (answer nodes)) all earlier e ≡ fourth_kind (code_named ar e.name) fresh (met_codes ar earlier)
  unfolding fourth_kind standing
  fourth-is earlier e n m =
      fourth-kind nodes b.loose (map name_in largest) (left-largest v t b) earlier e
      ∙ ap₂ (λ (x y : Bool). x && (not y && not (any (stands-for e.name) earlier))) (has-names v (names (answer nodes)) e.name answer-names n) (has_left v largest e.name left-coded n)
      ∙ ap (λ (x : Bool). has_code (code_named ar e.name) answers && (not (has_code (code_named ar e.name) largest) && not x)) (any_met v earlier e.name m n)
      ∙ fourth-test (has_code (code_named ar e.name) answers) (has_code (code_named ar e.name) largest) (has_code (code_named ar e.name) (met_codes ar earlier))
      ∙ ap (λ (x : Bool). eqb (cond x (cond (has_code (code_named ar e.name) (met_codes ar earlier)) 2 1) 0) 1) (sym (has-lacking largest answers (code_named ar e.name)))

  from-tested :
      (es earlier : List Item) → Named es → Named earlier → ((e : Item) → IMem e es → IMem e all) →
      changes_from (names (answer nodes)) all earlier es ≡ tested ar largest fresh (own_codes ar earlier) (met_codes ar earlier) es
  unfolding changes_from tested own_codes met_codes
  from-tested [] earlier n m i = refl
  from-tested (e ∷ es) earlier n m i =
      ap₂ (λ (x y : List Change). x ++ y)
      (ap₂ (λ (x y : Bool). item_changes x e.late y e.void e.place) (first-is earlier e (i e (inl refl)) n.0 m) (fourth-is earlier e n.0 m))
      (from-tested es (e ∷ earlier) n.1 (n.0, m) (λ x k. i x (inr k)))

  -- the numbers of the body stand for the changes
  pub marks-changes : changes_in 7 (masks ar largest fresh 40 origin [] [] (drop 7 t)) ≡ changes nodes
  unfolding changes own_codes met_codes
  marks-changes =
      ap (λ (x : List ℕ). changes_in 7 (masks ar largest fresh 40 origin [] [] x)) b.all
      ∙ marks-tested ar largest fresh nodes b.loose
      ∙ sym (from-tested all [] (items-named nodes Faces 15 7 0 [] b.loose (omega arith) (λ c h. (h, omega arith, tt))) tt (λ e m. m))

  -- ---- both lists rise

  codes-back : (cs : List ℕ) → Coded ar cs → map (code_of ar) (map cell_of cs) ≡ cs
  codes-back [] d = refl
  codes-back (c ∷ cs) d = ap₂ ◌∷◌ (code-back c d.0) (codes-back cs d.1)

  pub largest-rise : Rise largest
  largest-rise =
      rw (codes-back largest left-coded) at
      (codes-rise ar (map cell_of largest) (good-list ar largest (thinned-good ar (sorted (loose_codes ar t)) (codes-sorted v t b))).rising)

  answers-rise : Rise answers
  answers-rise =
      codes-rise ar (map cell_named (names (answer nodes)))
      (rise-rising (map cell_named (names (answer nodes))) (cells-named (names (answer nodes)) answer-names)
      (rw (names-named (names (answer nodes)) answer-names) (names-rise (answer nodes) Faces 15 0 good)))

  pub fresh-rise : Rise fresh
  fresh-rise = rise-lacking largest answers answers-rise
