-- Bytes put one behind the other. Assumes nothing.
use Rattle.std.specs.Prelude.{◌≡◌, refl, List, [], ◌∷◌, ◌++◌, ℕ, suc, ◌+◌, ◌-◌, ◌≤◌, ◌<◌, length, take, drop, set}
use Rattle.std.proofs.Common.{sym, ap, ap₂, ◌∙◌, append_assoc, arith, length-append, length-drop, drop-drop, take_at, drop_at, length-take-le}
use Rattle.std.proofs.lemmas.List.{set_split}
use Rattle.report.specs.Put.{put_at, Put}

pub put-length : (at : ℕ) (bytes out : List ℕ) → at + length bytes ≤ length out → length (put_at at bytes out) ≡ length out
put-length at bytes out h =
    let f : length (take at out) ≡ at = length-take-le at out (omega arith) in
    let d : length (drop (at + length bytes) out) ≡ length out - (at + length bytes) = length-drop (at + length bytes) out in
    omega (arith, length-append (take at out) (bytes ++ drop (at + length bytes) out), length-append bytes (drop (at + length bytes) out))

module _ (at : ℕ) (a out : List ℕ) (h : at + length a ≤ length out) where
  front : length (take at out ++ a) ≡ at + length a
  front = length-append (take at out) a ∙ ap (λ (x : ℕ). x + length a) (length-take-le at out (omega arith))

  apart : put_at at a out ≡ (take at out ++ a) ++ drop (at + length a) out
  apart = sym (append_assoc (take at out) a (drop (at + length a) out))

  -- what stands there up to the end
  pub put_front : take (at + length a) (put_at at a out) ≡ take at out ++ a
  put_front = ap (take (at + length a)) apart ∙ take_at (take at out ++ a) (drop (at + length a) out) (at + length a) front

  -- more bytes behind
  more : (b : List ℕ) → put_at (at + length a) b (put_at at a out) ≡ put_at at (a ++ b) out
  more b =
      let n : ℕ = at + length a in
      let back : drop n (put_at at a out) ≡ drop n out = ap (drop n) apart ∙ drop_at (take at out ++ a) (drop n out) n front in
      let rest : drop (n + length b) (put_at at a out) ≡ drop (n + length b) out =
      sym (drop-drop (length b) n (put_at at a out)) ∙ ap (drop (length b)) back ∙ drop-drop (length b) n out in
      let e : n + length b ≡ at + length (a ++ b) = omega (arith, length-append a b) in
      ap₂ (λ (x y : List ℕ). x ++ (b ++ y)) put_front (rest ∙ ap (λ (i : ℕ). drop i out) e)
      ∙ append_assoc (take at out) a (b ++ drop (at + length (a ++ b)) out)
      ∙ ap (λ (x : List ℕ). take at out ++ x) (sym (append_assoc a b (drop (at + length (a ++ b)) out)))

  -- one byte behind
  stored : (b : ℕ) → at + length a < length out → set (put_at at a out) (at + length a) b ≡ put_at (at + length a) (b ∷ []) (put_at at a out)
  stored b k =
      let n : ℕ = at + length a in
      let w : List ℕ = put_at at a out in
      let i : n < length w = omega (arith, put-length at a out h) in
      let s : suc n ≡ n + 1 = omega arith in
      set_split w n b i ∙ ap (λ (j : ℕ). take n w ++ (b ∷ drop j w)) s

pub put-none : {out : List ℕ} → Put 0 [] out out 0
put-none = record { ends = refl; is = refl }

-- bytes behind those that were put
pub then-put : {at m end : ℕ} {a b out mid later : List ℕ} → Put at a out mid m → m ≤ length out → Put m b mid later end → Put at (a ++ b) out later end
then-put {at} {m} {end} {a} {b} {out} p h q =
    let l : length (a ++ b) ≡ length a + length b = length-append a b in
    let e : m ≡ at + length a = p.ends in
    let f : end ≡ m + length b = q.ends in
    record { ends = omega arith; is = q.is ∙ ap₂ (λ (i : ℕ) (x : List ℕ). put_at i b x) e p.is ∙ more at a out (omega arith) b }

pub then-byte :
    (at : ℕ) (a out : List ℕ) {mid : List ℕ} {m : ℕ} (b : ℕ) → m ≡ at + length a → mid ≡ put_at at a out → m < length out → Put at (a ++ (b ∷ [])) out (set mid m b) (m + 1)
then-byte at a out {mid} {m} b e f h =
    let one : set mid m b ≡ put_at m (b ∷ []) mid =
    ap₂ (λ (i : ℕ) (x : List ℕ). set x i b) e f ∙ stored at a out (omega arith) b (omega arith) ∙ ap₂ (λ (i : ℕ) (x : List ℕ). put_at i (b ∷ []) x) (sym e) (sym f) in
    then-put {a = a} {out = out} {mid = mid} (record { ends = e; is = f }) (omega arith) (record { ends = refl; is = one })

-- what stands there then
pub put-taken : {at end : ℕ} {a out later : List ℕ} → Put at a out later end → end ≤ length out → take end later ≡ take at out ++ a
put-taken {at} {end} {a} {out} p h =
    let e : end ≡ at + length a = p.ends in
    ap₂ (λ (i : ℕ) (x : List ℕ). take i x) e p.is ∙ put_front at a out (omega arith)
