-- The pass that finds the changes, and the passes that count and write them. Assumes nothing.
use Rattle.std.specs.Prelude.{◌≡◌, refl, Bool, true, false, ◌&&◌, ◌||◌, not, cond, List, [], ◌∷◌, ◌++◌, ℕ, zero, suc, ◌+◌, ◌-◌, ◌*◌, ◌/◌, ◌%◌, ◌≤◌, ◌<◌, eqb, length, take, drop, get_or, set}
use Rattle.std.proofs.Common.{sym, ap, ap₂, ◌∙◌, append-nil, append_assoc, add-one, arith, length-set, length-append, length-drop, take-append-drop, drop_of_length-le, take-suc-set, take_all, take_at, drop-set-lt, drop_at, drop-drop, length-take-le, eq-eqb, ne_eqb}
use Rattle.cell.specs.declared.Arrangement.{Arrangement}
use Rattle.walk.specs.declared.Spot.{Spot}
use Rattle.walk.specs.Walk.{origin, after, whole_at, Walks}
use Rattle.walk.specs.Laws.Walk.{walks-on, byte_at}
use Rattle.listing.proofs.Laws.List.{spot_code}
use Rattle.proper.specs.Changes.{Change, when}
use Rattle.rescue.specs.Internal.Marks.{bit, Seen, first_kind, fourth_kind, late_at, shuts, mask_of, met_own, masks, kinds_at, changes_in}
use Rattle.rescue.specs.Rescue.{flat}
use Rattle.rescue.specs.Internal.Note.{FirstIs, FourthIs, kinds-length}
use Rattle.rescue.specs.Internal.Marking.{placed, Put}

-- what holds before the byte at i
pub record Marking (ar : Arrangement) (ms as' body marks named stood : List ℕ) (prev i : ℕ) (s : Spot) : Type 0 where
  pub own : List ℕ
  pub all : List ℕ
  pub walks : Walks body i s
  pub long : length body ≤ length marks
  pub named-long : length ms ≤ length named
  pub stood-long : length as' ≤ length stood
  pub named-is : Seen ms own named
  pub stood-is : Seen as' all stood
  pub put : take i marks ++ masks ar ms as' prev s own all (drop i body) ≡ masks ar ms as' 40 origin [] [] body

pub marking-start :
    (ar : Arrangement) (ms as' body marks named stood : List ℕ) → Walks body 0 origin → length body ≤ length marks → length ms ≤ length named → length as' ≤ length stood →
    Seen ms [] named → Seen as' [] stood → Marking ar ms as' body marks named stood 40 0 origin
marking-start ar ms as' body marks named stood w l n t f g =
    record { own = []; all = []; walks = w; long = l; named-long = n; stood-long = t; named-is = f; stood-is = g; put = refl }

masks-open : (ar : Arrangement) (ms as' : List ℕ) (prev b : ℕ) (s : Spot) (own all bs : List ℕ) →
    b ≡ 40 → masks ar ms as' prev s own all (b ∷ bs) ≡ cond (shuts bs) 8 0 ∷ masks ar ms as' b (after s b) own all bs
unfolding masks
masks-open ar ms as' prev b s own all bs e = rw (eq-eqb b 40 e)

masks-shut : (ar : Arrangement) (ms as' : List ℕ) (prev b : ℕ) (s : Spot) (own all bs : List ℕ) → b ≡ 41 → masks ar ms as' prev s own all (b ∷ bs) ≡ 0 ∷ masks ar ms as' b (after s b) own all bs
unfolding masks
masks-shut ar ms as' prev b s own all bs e = rw (ne_eqb b 40 (λ z. omega arith), eq-eqb b 41 e)

masks-name :
    (ar : Arrangement) (ms as' : List ℕ) (prev b : ℕ) (s : Spot) (own all bs : List ℕ) → (b ≡ 40 → ⊥) → (b ≡ 41 → ⊥) →
    masks ar ms as' prev s own all (b ∷ bs) ≡
    mask_of (first_kind (whole_at (b ∷ bs)) (spot_code ar (after s b)) ms own) (late_at prev s.number (after s b).number) (fourth_kind (spot_code ar (after s b)) as' all) ∷
    masks ar ms as' b (after s b) (met_own (whole_at (b ∷ bs)) (spot_code ar (after s b)) own) (spot_code ar (after s b) ∷ all) bs
unfolding masks
masks-name ar ms as' prev b s own all bs n m = rw (ne_eqb b 40 n, ne_eqb b 41 m)

module _ {ar : Arrangement} {ms as' body marks named stood : List ℕ} {prev i : ℕ} {s s' : Spot}
    (m : Marking ar ms as' body marks named stood prev i s) (h : i < length body) (e : s' ≡ after s (get_or body i 0)) where
  abbrev byte : ℕ
  byte = get_or body i 0

  abbrev bytes : List ℕ
  bytes = drop (i + 1) body

  pub on : Walks body (i + 1) s'
  on = rw e (walks-on m.walks h)

  store : (v : ℕ) (rest : List ℕ) → masks ar ms as' prev s m.own m.all (byte ∷ bytes) ≡ v ∷ rest → take (i + 1) (set marks i v) ++ rest ≡ masks ar ms as' 40 origin [] [] body
  store v rest f =
      let p : take (i + 1) (set marks i v) ≡ take i marks ++ (v ∷ []) =
      ap (λ (x : ℕ). take x (set marks i v)) (add-one i) ∙ take-suc-set marks i v (omega (arith, m.long)) in
      ap (λ (x : List ℕ). x ++ rest) p
      ∙ append_assoc (take i marks) (v ∷ []) rest
      ∙ ap (λ (x : List ℕ). take i marks ++ x) (sym f ∙ ap (masks ar ms as' prev s m.own m.all) (sym (byte_at body i h)))
      ∙ m.put

  still-long : (v : ℕ) → length body ≤ length (set marks i v)
  still-long v = omega (arith, length-set marks i v, m.long)

  pub marking-open : {v : ℕ} → byte ≡ 40 → v ≡ cond (shuts bytes) 8 0 → Marking ar ms as' body (set marks i v) named stood byte (i + 1) s'
  marking-open {v} o f =
      record {
        own = m.own;
        all = m.all;
        walks = on;
        long = still-long v;
        named-long = m.named-long;
        stood-long = m.stood-long;
        named-is = m.named-is;
        stood-is = m.stood-is;
        put =
            store v (masks ar ms as' byte s' m.own m.all bytes)
            (masks-open ar ms as' prev byte s m.own m.all bytes o ∙ ap₂ (λ (x : ℕ) (y : Spot). x ∷ masks ar ms as' byte y m.own m.all bytes) (sym f) (sym e));
      }

  pub marking-shut : byte ≡ 41 → Marking ar ms as' body (set marks i 0) named stood byte (i + 1) s'
  marking-shut o =
      record {
        own = m.own;
        all = m.all;
        walks = on;
        long = still-long 0;
        named-long = m.named-long;
        stood-long = m.stood-long;
        named-is = m.named-is;
        stood-is = m.stood-is;
        put =
            store 0 (masks ar ms as' byte s' m.own m.all bytes)
            (masks-shut ar ms as' prev byte s m.own m.all bytes o ∙ ap (λ (y : Spot). 0 ∷ masks ar ms as' byte y m.own m.all bytes) (sym e));
      }

  pub marking-name :
      {v c : ℕ} {w a l d : Bool} {named₁ stood₁ : List ℕ} → (byte ≡ 40 → ⊥) → (byte ≡ 41 → ⊥) → c ≡ spot_code ar s' → w ≡ whole_at (drop i body) →
      FirstIs w c ms named named₁ a → FourthIs c as' stood stood₁ d → length named₁ ≡ length named → length stood₁ ≡ length stood →
      l ≡ late_at prev s.number s'.number → v ≡ mask_of a l d → Marking ar ms as' body (set marks i v) named₁ stood₁ byte (i + 1) s'
  marking-name {v} {c} {w} {a} {l} {d} {named₁} {stood₁} n₁ n₂ ec ew fa fd ln ls el ev =
      let x = fa.is m.own m.named-is in
      let y = fd.is m.all m.stood-is in
      let cc' : spot_code ar (after s byte) ≡ c = sym (ec ∙ ap (spot_code ar) e) in
      let ww : whole_at (byte ∷ bytes) ≡ w = sym (ew ∙ ap whole_at (byte_at body i h)) in
      let ll : late_at prev s.number (after s byte).number ≡ l = sym (el ∙ ap (λ (z : Spot). late_at prev s.number z.number) e) in
      let vv : mask_of (first_kind (whole_at (byte ∷ bytes)) (spot_code ar (after s byte)) ms m.own)
      (late_at prev s.number (after s byte).number) (fourth_kind (spot_code ar (after s byte)) as' m.all) ≡ v =
      rw (ww, cc', ll) (ap₂ (λ (p q : Bool). mask_of p l q) (sym x.0) (sym y.0) ∙ sym ev) in
      let rr : masks ar ms as' byte (after s byte) (met_own (whole_at (byte ∷ bytes)) (spot_code ar (after s byte)) m.own) (spot_code ar (after s byte) ∷ m.all) bytes ≡
      masks ar ms as' byte s' (met_own w c m.own) (c ∷ m.all) bytes =
      rw (ww, cc') (ap (λ (z : Spot). masks ar ms as' byte z (met_own w c m.own) (c ∷ m.all) bytes) (sym e)) in
      record {
        own = met_own w c m.own;
        all = c ∷ m.all;
        walks = on;
        long = still-long v;
        named-long = omega (arith, m.named-long);
        stood-long = omega (arith, m.stood-long);
        named-is = x.1;
        stood-is = y.1;
        put =
            store v (masks ar ms as' byte s' (met_own w c m.own) (c ∷ m.all) bytes)
            (masks-name ar ms as' prev byte s m.own m.all bytes n₁ n₂ ∙ ap₂ ◌∷◌ vv rr);
      }

pub marking-end :
    {ar : Arrangement} {ms as' body marks named stood : List ℕ} {prev i : ℕ} {s : Spot} → Marking ar ms as' body marks named stood prev i s →
    length body ≤ i → take (length body) marks ≡ masks ar ms as' 40 origin [] [] body
unfolding masks
marking-end {ar} {ms} {as'} {body} {marks} {named} {stood} {prev} {i} {s} m h =
    let e : i ≡ length body = omega (arith, m.walks.within) in
    let z : masks ar ms as' prev s m.own m.all (drop i body) ≡ [] = ap (masks ar ms as' prev s m.own m.all) (drop_of_length-le body {i = i} h) in
    ap (λ (x : ℕ). take x marks) (sym e) ∙ sym (append-nil (take i marks)) ∙ ap (λ (x : List ℕ). take i marks ++ x) (sym z) ∙ m.put

-- ---- counted

unfoldable pub count_of : List ℕ → ℕ
count_of [] = 0
count_of (m ∷ ms) = length (kinds_at 7 m) + count_of ms

pub count-length : (ms : List ℕ) (p : ℕ) → length (changes_in p ms) ≡ count_of ms
unfolding count_of changes_in
count-length [] p = refl
count-length (m ∷ ms) p = length-append (kinds_at p m) (changes_in (p + 1) ms) ∙ ap₂ ◌+◌ (kinds-length p m ∙ sym (kinds-length 7 m)) (count-length ms (p + 1))

pub count-on : (ms : List ℕ) (i : ℕ) → i < length ms → count_of (drop i ms) ≡ length (kinds_at 7 (get_or ms i 0)) + count_of (drop (i + 1) ms)
unfolding count_of
count-on ms i h = ap count_of (byte_at ms i h)

pub count-end : (ms : List ℕ) (i : ℕ) → length ms ≤ i → count_of (drop i ms) ≡ 0
unfolding count_of
count-end ms i h = ap count_of (drop_of_length-le ms {i = i} h)

-- ---- written

flat_append : (a b : List Change) → flat (a ++ b) ≡ flat a ++ flat b
unfolding flat
flat_append [] b = refl
flat_append (x ∷ a) b = ap (λ (l : List ℕ). x.place ∷ x.kind ∷ l) (flat_append a b)

pub two-set : (out : List ℕ) (n x y : ℕ) → n + 2 ≤ length out → set (set out n x) (n + 1) y ≡ take n out ++ (x ∷ y ∷ drop (n + 2) out)
two-set out n x y h = rw (e₁, e₂) (go out n (omega arith))
  where
    e₁ : n + 1 ≡ suc n
    e₁ = omega arith

    e₂ : n + 2 ≡ suc (suc n)
    e₂ = omega arith

    go : (out : List ℕ) (n : ℕ) → suc (suc n) ≤ length out → set (set out n x) (suc n) y ≡ take n out ++ (x ∷ y ∷ drop (suc (suc n)) out)
    go [] n h = absurd (omega arith)
    go (a ∷ []) n h = absurd (omega arith)
    go (a ∷ b ∷ out) zero h = refl
    go (a ∷ b ∷ out) (suc n) h = ap (λ (l : List ℕ). a ∷ l) (go (b ∷ out) n (omega arith))

flat-when : (t : Bool) (p k : ℕ) → flat (when t (record { place = p; kind = k })) ≡ placed t p k
unfolding flat
flat-when true p k = refl
flat-when false p k = refl

-- what is written, and what is left to write
pub record Wrote (out₀ total out : List ℕ) (n : ℕ) (rest : List ℕ) : Type 0 where
  pub room : length total ≤ length out₀
  pub within : n + length rest ≡ length total
  pub long : length out ≡ length out₀
  pub put : take n out ++ rest ≡ total
  pub kept : drop n out ≡ drop n out₀

pub wrote-start : (out total : List ℕ) → length total ≤ length out → Wrote out total out 0 total
wrote-start out total h = record { room = h; within = omega arith; long = refl; put = refl; kept = refl }

pub wrote-end : {out₀ total out : List ℕ} {n : ℕ} → Wrote out₀ total out n [] → out ≡ total ++ drop (length total) out₀
wrote-end {out₀} {total} {out} {n} w =
    let e : n ≡ length total = omega (arith, w.within) in
    sym (take-append-drop n out) ∙ ap₂ ◌++◌ (sym (append-nil (take n out)) ∙ w.put) (w.kept ∙ ap (λ (x : ℕ). drop x out₀) e)

pub fits : {out₀ total out : List ℕ} {n : ℕ} (x rest : List ℕ) → Wrote out₀ total out n (x ++ rest) → n + length x ≤ length out
fits {out₀} {total} {out} {n} x rest w = omega (arith, w.room, w.within, w.long, length-append x rest)

pub wrote_on : {out₀ total out out' : List ℕ} {n n' : ℕ} (x rest : List ℕ) →
    Wrote out₀ total out n (x ++ rest) → n' ≡ n + length x → out' ≡ take n out ++ (x ++ drop (n + length x) out) → Wrote out₀ total out' n' rest
wrote_on {out₀} {total} {out} {out'} {n} {n'} x rest w en eo =
    let y : List ℕ = drop (n + length x) out in
    let room : n + length x ≤ length out = fits x rest w in
    let ln : length (take n out) ≡ n = length-take-le n out (omega arith) in
    let f : out' ≡ (take n out ++ x) ++ y = eo ∙ sym (append_assoc (take n out) x y) in
    let lf : length (take n out ++ x) ≡ n' = length-append (take n out) x ∙ omega arith in
    record {
      room = w.room;
      within = omega (arith, w.within, length-append x rest);
      long = ap length f ∙ length-append (take n out ++ x) y ∙ omega (arith, length-drop (n + length x) out, w.long);
      put =
          ap (λ (z : List ℕ). take n' z ++ rest) f
          ∙ ap (λ (z : List ℕ). z ++ rest) (take_at (take n out ++ x) y n' lf)
          ∙ append_assoc (take n out) x rest
          ∙ w.put;
      kept =
          ap (drop n') f ∙ drop_at (take n out ++ x) y n' lf
          ∙ sym (drop-drop (length x) n out) ∙ ap (drop (length x)) w.kept ∙ drop-drop (length x) n out₀
          ∙ ap (λ (z : ℕ). drop z out₀) (sym en);
    }

-- one number more
pub wrote-byte : {out₀ total out : List ℕ} {k : ℕ} → Wrote out₀ total out k (drop k total) → k < length total → Wrote out₀ total (set out k (get_or total k 0)) (k + 1) (drop (k + 1) total)
wrote-byte {out₀} {total} {out} {k} w h =
    let v : ℕ = get_or total k 0 in
    let p : take (k + 1) (set out k v) ≡ take k out ++ (v ∷ []) =
    ap (λ (x : ℕ). take x (set out k v)) (add-one k) ∙ take-suc-set out k v (omega (arith, w.room, w.long)) in
    record {
      room = w.room;
      within = omega (arith, length-drop (k + 1) total);
      long = length-set out k v ∙ w.long;
      put =
          ap (λ (x : List ℕ). x ++ drop (k + 1) total) p
          ∙ append_assoc (take k out) (v ∷ []) (drop (k + 1) total)
          ∙ ap (λ (x : List ℕ). take k out ++ x) (sym (byte_at total k h))
          ∙ w.put;
      kept = drop-set-lt (k + 1) out k v (omega arith) ∙ sym (drop-drop 1 k out) ∙ ap (drop 1) w.kept ∙ drop-drop 1 k out₀;
    }

pub wrote-all : {out₀ total out : List ℕ} {k : ℕ} → Wrote out₀ total out k (drop k total) → length total ≤ k → out ≡ total ++ drop (length total) out₀
wrote-all {out₀} {total} {out} {k} w h = let e : drop k total ≡ [] = drop_of_length-le total {i = k} h in wrote-end (rw e at w)

-- a change, where there is one
pub put-off : (out : List ℕ) (n p k : ℕ) (t : Bool) → t ≡ false → Put out out n n (placed t p k)
put-off out n p k t e = rw e (omega arith, sym (take-append-drop n out) ∙ ap (λ (x : ℕ). take n out ++ drop x out) z)
  where
    z : n ≡ n + 0
    z = omega arith

pub put-room : (p k n room : ℕ) (t : Bool) → t ≡ true → n + length (placed t p k) ≤ room → n + 2 ≤ room
put-room p k n room t e h = rw e at h

pub put_two : (out : List ℕ) (n p k : ℕ) (t : Bool) → t ≡ true → n + 2 ≤ length out → Put out (set (set out n p) (n + 1) k) n (n + 2) (placed t p k)
put_two out n p k t e h = rw e (refl, two-set out n p k h)

flat-one : (t : Bool) (p k : ℕ) (l : List Change) (rest : List ℕ) → flat (when t (record { place = p; kind = k }) ++ l) ++ rest ≡ placed t p k ++ (flat l ++ rest)
unfolding flat
flat-one true p k l rest = refl
flat-one false p k l rest = refl

pub flat-kinds :
    (p m : ℕ) (rest : List ℕ) → flat (kinds_at p m) ++ rest ≡ placed (eqb (m % 2) 1) p 1 ++ (placed (eqb (m / 2 % 2) 1) p 2 ++ (placed (eqb (m / 8) 1) p 3 ++ (placed (eqb (m / 4 % 2) 1) p 4 ++ rest)))
unfolding kinds_at
flat-kinds p m rest = go (eqb (m % 2) 1) (eqb (m / 2 % 2) 1) (eqb (m / 8) 1) (eqb (m / 4 % 2) 1)
  where
    go :
        (a b c d : Bool) →
        flat (when a (record { place = p; kind = 1 }) ++ (when b (record { place = p; kind = 2 }) ++ (when c (record { place = p; kind = 3 }) ++ when d (record { place = p; kind = 4 })))) ++ rest ≡
        placed a p 1 ++ (placed b p 2 ++ (placed c p 3 ++ (placed d p 4 ++ rest)))
    go a b c d =
        flat-one a p 1 (when b (record { place = p; kind = 2 }) ++ (when c (record { place = p; kind = 3 }) ++ when d (record { place = p; kind = 4 }))) rest
        ∙ ap (λ (z : List ℕ). placed a p 1 ++ z)
        (flat-one b p 2 (when c (record { place = p; kind = 3 }) ++ when d (record { place = p; kind = 4 })) rest
        ∙ ap (λ (z : List ℕ). placed b p 2 ++ z)
        (flat-one c p 3 (when d (record { place = p; kind = 4 })) rest ∙ ap (λ (z : List ℕ). placed c p 3 ++ (z ++ rest)) (flat-when d p 4)))

-- all changes of one number
module _ (out₀ : List ℕ) (n p m : ℕ) (h : n + length (flat (kinds_at p m)) ≤ length out₀) where
  abbrev part₁ : List ℕ
  part₁ = placed (eqb (m % 2) 1) p 1

  abbrev part₂ : List ℕ
  part₂ = placed (eqb (m / 2 % 2) 1) p 2

  abbrev part₃ : List ℕ
  part₃ = placed (eqb (m / 8) 1) p 3

  abbrev part₄ : List ℕ
  part₄ = placed (eqb (m / 4 % 2) 1) p 4

  abbrev whole_of : List ℕ
  whole_of = take n out₀ ++ flat (kinds_at p m)

  parts : flat (kinds_at p m) ≡ part₁ ++ (part₂ ++ (part₃ ++ (part₄ ++ [])))
  parts = sym (append-nil (flat (kinds_at p m))) ∙ flat-kinds p m []

  front : length (take n out₀) ≡ n
  front = length-take-le n out₀ (omega arith)

  pub kinds-start : Wrote out₀ whole_of out₀ n (part₁ ++ (part₂ ++ (part₃ ++ (part₄ ++ []))))
  kinds-start =
      rw (← parts)
      (record {
        room = omega (arith, front, length-append (take n out₀) (flat (kinds_at p m)));
        within = omega (arith, front, length-append (take n out₀) (flat (kinds_at p m)));
        long = refl;
        put = refl;
        kept = refl;
      })

  pub kinds-1 : {o : List ℕ} {k : ℕ} → Put out₀ o n k part₁ → Wrote out₀ whole_of o k (part₂ ++ (part₃ ++ (part₄ ++ [])))
  kinds-1 e = wrote_on part₁ (part₂ ++ (part₃ ++ (part₄ ++ []))) kinds-start e.0 e.1

  pub kinds-2 : {o o' : List ℕ} {k k' : ℕ} → Wrote out₀ whole_of o k (part₂ ++ (part₃ ++ (part₄ ++ []))) → Put o o' k k' part₂ → Wrote out₀ whole_of o' k' (part₃ ++ (part₄ ++ []))
  kinds-2 w e = wrote_on part₂ (part₃ ++ (part₄ ++ [])) w e.0 e.1

  pub kinds-3 : {o o' : List ℕ} {k k' : ℕ} → Wrote out₀ whole_of o k (part₃ ++ (part₄ ++ [])) → Put o o' k k' part₃ → Wrote out₀ whole_of o' k' (part₄ ++ [])
  kinds-3 w e = wrote_on part₃ (part₄ ++ []) w e.0 e.1

  pub kinds-4 : {o o' : List ℕ} {k k' : ℕ} → Wrote out₀ whole_of o k (part₄ ++ []) → Put o o' k k' part₄ → Put out₀ o' n k' (flat (kinds_at p m))
  kinds-4 {o} {o'} {k} {k'} w e =
      let v = wrote_on part₄ [] w e.0 e.1 in
      let l : length whole_of ≡ n + length (flat (kinds_at p m)) = length-append (take n out₀) (flat (kinds_at p m)) ∙ omega (arith, front) in
      (omega (arith, v.within), wrote-end v ∙ append_assoc (take n out₀) (flat (kinds_at p m)) (drop (length whole_of) out₀) ∙ ap (λ (x : ℕ). take n out₀ ++ (flat (kinds_at p m) ++ drop x out₀)) l)

  pub fits-1 : n + length part₁ ≤ length out₀
  fits-1 = fits part₁ _ kinds-start

  pub fits-2 : {o : List ℕ} {k : ℕ} → Wrote out₀ whole_of o k (part₂ ++ (part₃ ++ (part₄ ++ []))) → k + length part₂ ≤ length o
  fits-2 w = fits part₂ (part₃ ++ (part₄ ++ [])) w

  pub fits-3 : {o : List ℕ} {k : ℕ} → Wrote out₀ whole_of o k (part₃ ++ (part₄ ++ [])) → k + length part₃ ≤ length o
  fits-3 w = fits part₃ (part₄ ++ []) w

  pub fits-4 : {o : List ℕ} {k : ℕ} → Wrote out₀ whole_of o k (part₄ ++ []) → k + length part₄ ≤ length o
  fits-4 w = fits part₄ [] w

-- the changes of the numbers from i on
unfoldable pub left_at : (ms : List ℕ) (i : ℕ) → List ℕ
left_at ms i = flat (changes_in (i + 7) (drop i ms))

pub left-on : (ms : List ℕ) (i : ℕ) → i < length ms → left_at ms i ≡ flat (kinds_at (i + 7) (get_or ms i 0)) ++ left_at ms (i + 1)
unfolding left_at changes_in
left-on ms i h =
    let e : i + 7 + 1 ≡ i + 1 + 7 = omega arith in
    ap (λ (x : List ℕ). flat (changes_in (i + 7) x)) (byte_at ms i h)
    ∙ flat_append (kinds_at (i + 7) (get_or ms i 0)) (changes_in (i + 7 + 1) (drop (i + 1) ms))
    ∙ ap (λ (x : ℕ). flat (kinds_at (i + 7) (get_or ms i 0)) ++ flat (changes_in x (drop (i + 1) ms))) e

pub left_end : (ms : List ℕ) (i : ℕ) → length ms ≤ i → left_at ms i ≡ []
unfolding left_at changes_in flat
left_end ms i h = ap (λ (x : List ℕ). flat (changes_in (i + 7) x)) (drop_of_length-le ms {i = i} h)

pub left-start : (ms : List ℕ) → left_at ms 0 ≡ flat (changes_in 7 ms)
unfolding left_at
left-start ms = refl

module _ {out₀ total out : List ℕ} {n : ℕ} (ms : List ℕ) (i : ℕ) (w : Wrote out₀ total out n (left_at ms i)) where
  next : i < length ms → Wrote out₀ total out n (flat (kinds_at (i + 7) (get_or ms i 0)) ++ left_at ms (i + 1))
  next h = rw (left-on ms i h) at w

  pub left-room : i < length ms → n + length (flat (kinds_at (i + 7) (get_or ms i 0))) ≤ length out
  left-room h = fits (flat (kinds_at (i + 7) (get_or ms i 0))) (left_at ms (i + 1)) (next h)

  pub left_step : {out' : List ℕ} {n' : ℕ} → i < length ms → Put out out' n n' (flat (kinds_at (i + 7) (get_or ms i 0))) → Wrote out₀ total out' n' (left_at ms (i + 1))
  left_step h e = wrote_on (flat (kinds_at (i + 7) (get_or ms i 0))) (left_at ms (i + 1)) (next h) e.0 e.1

  pub left-skip : i < length ms → get_or ms i 0 ≡ 0 → Wrote out₀ total out n (left_at ms (i + 1))
  unfolding kinds_at flat
  left-skip h e = rw e at (next h)

  pub left-done : length ms ≤ i → out ≡ total ++ drop (length total) out₀
  left-done h = wrote-end (rw (left_end ms i h) at w)

pub left-begin : (ms out : List ℕ) → length (flat (changes_in 7 ms)) ≤ length out → Wrote out (flat (changes_in 7 ms)) out 0 (left_at ms 0)
left-begin ms out h = rw (left-start ms) (wrote-start out (flat (changes_in 7 ms)) h)
