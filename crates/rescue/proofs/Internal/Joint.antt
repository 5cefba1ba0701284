-- What the passes find, put together. Assumes nothing.
use Rattle.std.specs.Prelude.{◌≡◌, Bool, true, ◌||◌, cond, ℕ, zero, suc, ◌-◌, ◌*◌, ◌≤◌, ◌<◌, ltb, take, drop, get_or, replicate, Err, Ok, Result}
use Rattle.std.proofs.Math.Path.{refl, sym, ap, ap₂}
use Rattle.std.proofs.Common.{subst, ◌∙◌, take_at, lt-ltb, le-ltb}
use Rattle.std.proofs.Math.Bool.{false}
use mathlib.Core.List.{List, [], ◌∷◌, ◌++◌, map}
use native.Mathlib.Omega.{arith}
use Rattle.std.proofs.Math.ListN.{length, length-drop}
use Rattle.std.proofs.lemmas.List.{length-map}
use Rattle.logic.specs.Lent.{in_front}
use Rattle.logic.specs.Rise.{Rise}
use Rattle.logic.specs.Refusal.{refuse, ◌otherwise◌, given}
use Rattle.logic.specs.Laws.Refusal.{passes}
use Rattle.logic.specs.Laws.Bools.{by_cond}
use Rattle.cell.specs.declared.Arrangement.{Arrangement}
use Rattle.cell.specs.Cell.{IsArrangement}
use Rattle.code.specs.Code.{code_of, cell_of}
use Rattle.code.specs.Inside.{start_of, end_of}
use Rattle.reading.specs.declared.Level.TheVariants.{Faces}
use Rattle.reading.specs.Reading.{Nodes, names, render}
use Rattle.reading.specs.Ground.{cell_named, whole_cells}
use Rattle.reading.specs.Report.{count}
use Rattle.reading.proofs.Laws.Report.{count-names, count_most}
use Rattle.reading.proofs.Laws.Loose.{good-loose}
use Rattle.walk.specs.Walk.{origin, Walks}
use Rattle.writing.specs.Write.{written}
use Rattle.sorting.specs.Sorted.{sorted}
use Rattle.sorting.proofs.Laws.Sorted.{sorted-length}
use Rattle.loose.specs.LooseText.{LooseBody}
use Rattle.loose.specs.LooseScan.{loose_nodes}
use Rattle.loose.proofs.Laws.Reading.{loose-nodes}
use Rattle.loose.specs.Look.{loose_arrangement, IsLoose, loose_refusal, place_with, looked}
use Rattle.loose.proofs.Laws.Look.{loose-own, loose-short}
use Rattle.proper.specs.Proper.{answer, rescued, proper_of}
use Rattle.proper.specs.Changes.{Change, changes}
use Rattle.proper.proofs.Laws.Proper.{answer-good}
use Rattle.proper.proofs.Laws.Text.{loose-body, loose-long, loose-arranged, short-enough, codes-fit}
use Rattle.proper.proofs.Laws.Walk.{loose-start}
use Rattle.proper.specs.Thin.{thinned}
use Rattle.proper.specs.Wholes.{loose_codes}
use Rattle.rescue.specs.Internal.Marks.{Clear, has_code, bit, Seen, masks, changes_in, Zeros}
use Rattle.rescue.specs.Laws.Flat.{flat-length}
use Rattle.rescue.specs.Internal.Find.{largest, answers, fresh, marks-changes, largest-rise, fresh-rise}
use Rattle.rescue.specs.Internal.Lack.{lacking-clear, lacking-length}
use Rattle.rescue.specs.Rescue.{flat, changes_of, rescue_refusal, told, RescueIs}
use Rattle.logic.specs.Laws.Answer.{err-is}
use Rattle.reading.specs.declared.Refused.{Refused}

pub zeros-seen : (keys seen : List ℕ) → Zeros seen → Seen keys [] seen
unfolding has_code
zeros-seen keys seen z k h = z k

pub zeros-made : (n : ℕ) → Zeros (replicate n 0)
zeros-made zero k = refl
zeros-made (suc n) zero = refl
zeros-made (suc n) (suc k) = zeros-made n k

thinned-length : (from : ℕ) (cs : List ℕ) → length (thinned from cs) ≤ length cs
unfolding thinned
thinned-length from [] = omega arith
thinned-length from (c ∷ cs) =
    by_cond (λ (l : List ℕ). length l ≤ suc (length cs)) (ltb (start_of (cell_of c)) from) (λ _. let k = thinned-length from cs in omega arith)
    (λ _. let k = thinned-length (end_of (cell_of c)) cs in omega arith)

module _ (t : List ℕ) (e : loose_refusal t ≡ 0) where
  pub is-text : IsLoose t
  is-text = loose-own t e

  pub body : LooseBody (drop 7 t) (loose_nodes (drop 7 t))
  body = loose-body t is-text

  abbrev nodes : Nodes
  nodes = loose_nodes (drop 7 t)

  short : length (proper_of t) ≤ length t
  short = short-enough t is-text

  -- ---- the cells of the answer

  answer-body : LooseBody (drop 7 (proper_of t)) (answer nodes)
  unfolding proper_of rescued
  answer-body = record { loose = good-loose (answer nodes) Faces 15 15 0 (omega arith) (answer-good nodes body.loose); all = refl }

  answer-nodes : loose_nodes (drop 7 (proper_of t)) ≡ answer nodes
  answer-nodes = loose-nodes answer-body

  seven : 7 ≤ length (proper_of t)
  unfolding proper_of rescued
  seven = omega arith

  -- in the arrangement of its heading
  module _ {ar : Arrangement} (aq : ar ≡ loose_arrangement t) where
    pub arranged : IsArrangement ar
    arranged = subst IsArrangement (sym aq) (loose-arranged t is-text)

    answer-codes : loose_codes ar (proper_of t) ≡ answers arranged t body
    unfolding loose_codes whole_cells
    answer-codes = ap (λ (x : Nodes). map (code_of ar) (map cell_named (names x))) answer-nodes

    answers-short : length (answers arranged t body) ≤ length t
    answers-short =
        omega (
          arith,
          length-map (map cell_named (names (answer nodes))) (code_of ar),
          length-map (names (answer nodes)) cell_named,
          count-names (answer nodes),
          count_most (answer nodes) Faces,
          ap length answer-body.all,
          length-drop 7 (proper_of t),
          short,
        )

    module _ (made : List ℕ) (m : made ≡ proper_of t) where
      pub made-ready : (room : ℕ) → length t ≤ room → LooseBody (drop 7 made) (loose_nodes (drop 7 made)) × (7 ≤ length made) × (length (loose_codes ar made) ≤ room) × IsArrangement ar
      made-ready room h =
          let b : LooseBody (drop 7 (proper_of t)) (loose_nodes (drop 7 (proper_of t))) = rw answer-nodes answer-body in
          rw m (b, seven, omega (arith, answers-short, ap length answer-codes), arranged)

      pub made-codes : loose_codes ar made ≡ answers arranged t body
      made-codes = ap (loose_codes ar) m ∙ answer-codes

    pub keys-rise : (ls : List ℕ) → ls ≡ largest arranged t body → Rise ls
    keys-rise ls q = rw q (largest-rise arranged t body)

    largest-short : length (largest arranged t body) ≤ length t
    largest-short = omega (arith, thinned-length 0 (sorted (loose_codes ar t)), sorted-length (loose_codes ar t), codes-fit t is-text ar)

    walks : Walks (drop 7 t) 0 origin
    walks = let w = loose-start t body (loose-long t is-text) in record { within = omega arith; fits = w.fits; goes = w.goes }

    module _ (text ls as' : List ℕ) (p : text ≡ drop 7 t) (q : ls ≡ largest arranged t body) (s : as' ≡ fresh arranged t body) where
      pub mark-ready :
          (marks named stood : List ℕ) → length t ≤ length marks → length t ≤ length named → length t ≤ length stood → Zeros named → Zeros stood →
          (Walks text 0 origin × (length text ≤ length marks))
          × ((Rise ls × (length ls ≤ length named) × Seen ls [] named) × (Rise as' × (length as' ≤ length stood) × Seen as' [] stood × Clear ls as'))
      mark-ready marks named stood a b c y z =
          rw (p, q, s) (
            (walks, omega (arith, length-drop 7 t)),
            (
              (largest-rise arranged t body, omega (arith, largest-short), zeros-seen (largest arranged t body) named y),
              (
                fresh-rise arranged t body,
                omega (arith, answers-short, lacking-length (largest arranged t body) (answers arranged t body)),
                zeros-seen (fresh arranged t body) stood z,
                lacking-clear (largest arranged t body) (answers arranged t body),
              ),
            ),
          )

      pub marked : (marks : List ℕ) → take (length text) marks ≡ masks ar ls as' 40 origin [] [] text → changes_in 7 (take (length t - 7) marks) ≡ changes_of t
      unfolding changes_of
      marked marks h =
          let l : length t - 7 ≡ length text = sym (ap length p ∙ length-drop 7 t) in
          let g : masks ar ls as' 40 origin [] [] text ≡ masks ar (largest arranged t body) (fresh arranged t body) 40 origin [] [] (drop 7 t) = rw (p, q, s) in
          ap (λ (x : ℕ). changes_in 7 (take x marks)) l ∙ ap (changes_in 7) (h ∙ g) ∙ marks-changes arranged t body

-- ---- the answer

pub look-loose : {a : Arrangement} (t : List ℕ) → Ok a ≡ looked (loose_refusal t) t → (loose_refusal t ≡ 0) × (a ≡ loose_arrangement t)
unfolding looked
look-loose {a} t e = go (loose_refusal t) refl e
  where
    go : (q : ℕ) → loose_refusal t ≡ q → Ok a ≡ looked q t → (loose_refusal t ≡ 0) × (a ≡ loose_arrangement t)
    go zero f e = (f, (cc))
    go (suc q) f e = let k : ◌≡◌ {A = ℕ} 0 1 = cc in absurd (omega arith)

pub look-refused : {t out list : List ℕ} {r p : ℕ} → Err (record { refusal = r; place = p }) ≡ looked (loose_refusal t) t → RescueIs t out out list list (Err (record { refusal = r; place = p }))
unfolding looked rescue_refusal told given ◌otherwise◌
look-refused {t} {out} {list} {r} {p} e = go (loose_refusal t) refl e
  where
    go : (q : ℕ) → loose_refusal t ≡ q → Err (record { refusal = r; place = p }) ≡ looked q t → RescueIs t out out list list (Err (record { refusal = r; place = p }))
    go zero f e = let k : ◌≡◌ {A = ℕ} 0 1 = cc in absurd (omega arith)
    go (suc q) f e =
        let i : r ≡ suc q = ap (λ (x : Refused). x.refusal) (err-is e) in
        let j : p ≡ place_with (suc q) t = ap (λ (x : Refused). x.place) (err-is e) in
        let z : rescue_refusal t (length out) (length list) ≡ suc q =
        ap (λ (x : ℕ). x otherwise refuse (ltb (length out) (length (proper_of t)) || ltb (length list) (length (flat (changes_of t)))) 8) f in
        record {
          answer = ap₂ (λ (a b : ℕ). Err (record { refusal = a; place = b })) i j ∙ sym (ap (λ (x : ℕ). told x t) z);
          text = sym (ap (λ (x : ℕ). given x (in_front (proper_of t) out) out) z);
          changed = sym (ap (λ (x : ℕ). given x (in_front (flat (changes_of t)) list) list) z);
        }

module _ (t : List ℕ) (e : loose_refusal t ≡ 0) (out list : List ℕ) where
  by-rooms : (a b : Bool) → ltb (length out) (length (proper_of t)) ≡ a → ltb (length list) (length (flat (changes_of t))) ≡ b → rescue_refusal t (length out) (length list) ≡ refuse (a || b) 8
  unfolding rescue_refusal
  by-rooms a b f g = passes _ e ∙ ap₂ (λ (x y : Bool). refuse (x || y) 8) f g

  eight : rescue_refusal t (length out) (length list) ≡ 8 → RescueIs t out out list list (Err (record { refusal = 8; place = 0 }))
  unfolding told given
  eight z =
      record {
        answer = sym (ap (λ (x : ℕ). told x t) z);
        text = sym (ap (λ (x : ℕ). given x (in_front (proper_of t) out) out) z);
        changed = sym (ap (λ (x : ℕ). given x (in_front (flat (changes_of t)) list) list) z);
      }

  pub no-text-room : length out < length (proper_of t) → RescueIs t out out list list (Err (record { refusal = 8; place = 0 }))
  no-text-room h = eight (by-rooms true (ltb (length list) (length (flat (changes_of t)))) (lt-ltb (length out) (length (proper_of t)) h) refl)

  module _ (n : ℕ) (c : n ≡ length (changes_of t)) where
    pub no-list-room : length (proper_of t) ≤ length out → length list < n * 2 → RescueIs t out out list list (Err (record { refusal = 8; place = 0 }))
    no-list-room h g =
        eight (by-rooms false true (le-ltb (length out) (length (proper_of t)) h) (lt-ltb (length list) (length (flat (changes_of t))) (omega (arith, flat-length (changes_of t)))))

    pub rescued-is :
        {out' list' : List ℕ} {m : ℕ} → m ≡ length (proper_of t) → length (proper_of t) ≤ length out → n * 2 ≤ length list → out' ≡ in_front (proper_of t) out →
        list' ≡ in_front (flat (changes_of t)) list → RescueIs t out out' list list' (Ok (record { length = m; changes = n }))
    unfolding told given
    rescued-is {out'} {list'} {m} i h g x y =
        let z : rescue_refusal t (length out) (length list) ≡ 0 =
        by-rooms false false (le-ltb (length out) (length (proper_of t)) h) (le-ltb (length list) (length (flat (changes_of t))) (omega (arith, flat-length (changes_of t)))) in
        record {
          answer = ap₂ (λ (a b : ℕ). Ok (record { length = a; changes = b })) i c ∙ sym (ap (λ (w : ℕ). told w t) z);
          text = x ∙ sym (ap (λ (w : ℕ). given w (in_front (proper_of t) out) out) z);
          changed = y ∙ sym (ap (λ (w : ℕ). given w (in_front (flat (changes_of t)) list) list) z);
        }

pub take-room : (n : ℕ) (l : List ℕ) (r : ℕ) → n ≤ r → length (take n l) ≤ r
take-room zero l r h = omega arith
take-room (suc n) [] r h = omega arith
take-room (suc n) (x ∷ l) r h = let k = take-room n l n (omega arith) in omega arith

pub flat-room : (x : List Change) (n r : ℕ) → n ≡ length x → n * 2 ≤ r → length (flat x) ≤ r
flat-room x n r e h = omega (arith, flat-length x)
