-- Decoding place by place: what is read from each place on, and what each place makes of the answer. Assumes nothing.
use Rattle.std.specs.Prelude.{Err, Ok, Result}
use mathlib.Core.Path.{◌≡◌, refl, sym, ap, ap₂, ◌∙◌}
use mathlib.Core.Bool.{Bool}
use mathlib.Core.List.{List, [], ◌∷◌, ◌++◌, append-nil, append_assoc}
use Prim.Native.Nat.{ℕ, suc, ◌+◌, ◌-◌, ◌*◌, ◌≤◌, ◌<◌}
use native.Mathlib.Numerals.{add-one}
use native.Mathlib.Omega.{arith}
use lib.Dec.{leb}
use lib.ListN.{length, set, take, drop, length-set}
use lib.Seq.{take_all, take-suc-set}
use Rattle.fields.specs.Form.{Form, done, number}
use Rattle.fields.specs.Read.{Read, wrong, behind, read_as}
use Rattle.fields.specs.Number.{number_at, by_number}
use Rattle.fields.proofs.Laws.Places.{behind-none, number_read, end_read, more-read}
use Rattle.history.specs.declared.Settings.{Settings}
use Rattle.history.specs.declared.History.{History}
use Rattle.encoding.specs.Decoding.{up_to, settings, settings_form, places_form, history_form, refused_at, answer_to, decoded_of, with_number, settings_at, by_settings, then_number, newest_in}

abbrev history : ℕ → List Settings → History
history newest kept = record { newest = newest; kept = kept }

-- ---- the settings of a place

module _ {A : Type 0} (t : List ℕ) (reached : Bool) (next : Settings → Form A) (at : ℕ) where
  abbrev rest : ℕ → Form A → Read A
  rest i f = behind i (read_as f (drop i t))

  abbrev round : (n s k : ℕ) → Form A
  round n s k = number 5 0 (up_to reached 10000000000) (λ e. next (settings n s k e))

  abbrev fine : (n s : ℕ) → Form A
  fine n s = number 1 0 (up_to reached 15) (λ k. round n s k)

  abbrev south : (n : ℕ) → Form A
  south n = number 1 0 (up_to reached 3) (λ s. fine n s)

  abbrev then : Settings → Read A
  then x = rest (at + 8) (next x)

  read-round : (n s k : ℕ) → rest (at + 3) (round n s k) ≡ by_settings (with_number (number_at t (at + 3) 5 0 (up_to reached 10000000000)) (λ e. Ok (settings n s k e))) then
  read-round n s k =
      number_read t (at + 3) 5 0 (up_to reached 10000000000) (λ e. next (settings n s k e)) ∙ go (number_at t (at + 3) 5 0 (up_to reached 10000000000))
    where
      go : (r : Result ℕ ℕ) → by_number r (λ e. rest (at + 3 + 5) (next (settings n s k e))) ≡ by_settings (with_number r (λ e. Ok (settings n s k e))) then
      go (Ok e) = ap (λ (i : ℕ). rest i (next (settings n s k e))) (let z : at + 3 + 5 ≡ at + 8 = omega arith in z)
      go (Err p) = refl

  read-fine : (n s : ℕ) → rest (at + 2) (fine n s)
      ≡ by_settings (with_number (number_at t (at + 2) 1 0 (up_to reached 15)) (λ k. with_number (number_at t (at + 3) 5 0 (up_to reached 10000000000)) (λ e. Ok (settings n s k e)))) then
  read-fine n s = number_read t (at + 2) 1 0 (up_to reached 15) (round n s) ∙ go (number_at t (at + 2) 1 0 (up_to reached 15))
    where
      go : (r : Result ℕ ℕ) → by_number r (λ k. rest (at + 2 + 1) (round n s k))
          ≡ by_settings (with_number r (λ k. with_number (number_at t (at + 3) 5 0 (up_to reached 10000000000)) (λ e. Ok (settings n s k e)))) then
      go (Ok k) = ap (λ (i : ℕ). rest i (round n s k)) (let z : at + 2 + 1 ≡ at + 3 = omega arith in z) ∙ read-round n s k
      go (Err p) = refl

  read-south : (n : ℕ) → rest (at + 1) (south n)
      ≡ by_settings
      (with_number (number_at t (at + 1) 1 0 (up_to reached 3))
      (λ s. with_number (number_at t (at + 2) 1 0 (up_to reached 15)) (λ k. with_number (number_at t (at + 3) 5 0 (up_to reached 10000000000)) (λ e. Ok (settings n s k e)))))
      then
  read-south n = number_read t (at + 1) 1 0 (up_to reached 3) (fine n) ∙ go (number_at t (at + 1) 1 0 (up_to reached 3))
    where
      go : (r : Result ℕ ℕ) → by_number r (λ s. rest (at + 1 + 1) (fine n s))
          ≡ by_settings
          (with_number r
          (λ s. with_number (number_at t (at + 2) 1 0 (up_to reached 15)) (λ k. with_number (number_at t (at + 3) 5 0 (up_to reached 10000000000)) (λ e. Ok (settings n s k e)))))
          then
      go (Ok s) = ap (λ (i : ℕ). rest i (fine n s)) (let z : at + 1 + 1 ≡ at + 2 = omega arith in z) ∙ read-fine n s
      go (Err p) = refl

  settings-read : rest at (settings_form reached next) ≡ by_settings (settings_at t at reached) then
  unfolding settings_form settings_at
  settings-read = number_read t at 1 0 (up_to reached 3) south ∙ go (number_at t at 1 0 (up_to reached 3))
    where
      go : (r : Result ℕ ℕ) → by_number r (λ n. rest (at + 1) (south n))
          ≡ by_settings
          (with_number r
          (λ n.
          with_number (number_at t (at + 1) 1 0 (up_to reached 3))
          (λ s. with_number (number_at t (at + 2) 1 0 (up_to reached 15)) (λ k. with_number (number_at t (at + 3) 5 0 (up_to reached 10000000000)) (λ e. Ok (settings n s k e))))))
          then
      go (Ok n) = read-south n
      go (Err p) = refl

-- ---- the heading

heading-read : (t : List ℕ) → read_as history_form t ≡ by_number (newest_in t) (λ n. behind 7 (read_as (places_form 32 0 n (λ xs. done (history n xs))) (drop 7 t)))
unfolding history_form newest_in
heading-read t = sym (behind-none (read_as history_form t)) ∙ number_read t 0 5 319024201729 319024201729 (λ m. after) ∙ go (number_at t 0 5 319024201729 319024201729)
  where
    after : Form History
    after = number 2 0 65535 (λ n. places_form 32 0 n (λ xs. done (history n xs)))

    go : (r : Result ℕ ℕ) → by_number r (λ m. behind 5 (read_as after (drop 5 t)))
        ≡ by_number (then_number r (number_at t 5 2 0 65535)) (λ n. behind 7 (read_as (places_form 32 0 n (λ xs. done (history n xs))) (drop 7 t)))
    go (Ok m) = number_read t 5 2 0 65535 (λ n. places_form 32 0 n (λ xs. done (history n xs)))
    go (Err p) = refl

-- ---- the loop

-- with the places read so far, and what is read from the next one on, it is the whole
pub record Reading (t : List ℕ) (newest q : ℕ) (kept : List Settings) : Type 0 where
  pub within : q ≤ 32
  pub long : length kept ≡ 32
  pub whole : read_as history_form t ≡ behind (7 + 8 * q) (read_as (places_form (32 - q) q newest (λ xs. done (history newest (take q kept ++ xs)))) (drop (7 + 8 * q) t))

pub not-read : (t : List ℕ) {p : ℕ} → newest_in t ≡ Err p → refused_at p ≡ decoded_of t
unfolding decoded_of
not-read t {p} e = let z : read_as history_form t ≡ wrong p = heading-read t ∙ rw e refl in sym (ap answer_to z)

pub begun : (t : List ℕ) (n : ℕ) (kept : List Settings) → newest_in t ≡ Ok n → length kept ≡ 32 → Reading t n 0 kept
begun t n kept e l = record { within = omega arith; long = l; whole = heading-read t ∙ rw e refl }

module _ {t : List ℕ} {newest q : ℕ} {kept : List Settings} (r : Reading t newest q kept) where
  module _ (h : q < 32) where
    abbrev goes_on : Settings → Form History
    goes_on x = places_form (32 - (q + 1)) (suc q) newest (λ xs. done (history newest (take q kept ++ (x ∷ xs))))

    one_more : read_as history_form t ≡ by_settings (settings_at t (7 + 8 * q) (leb q newest)) (λ x. behind (7 + 8 * q + 8) (read_as (goes_on x) (drop (7 + 8 * q + 8) t)))
    unfolding places_form
    one_more =
        r.whole
        ∙ ap (λ (k : ℕ). behind (7 + 8 * q) (read_as (places_form k q newest (λ xs. done (history newest (take q kept ++ xs)))) (drop (7 + 8 * q) t)))
        (let z : 32 - q ≡ suc (32 - (q + 1)) = omega arith in z)
        ∙ settings-read t (leb q newest) goes_on (7 + 8 * q)

    pub place-wrong : {p : ℕ} → settings_at t (7 + 8 * q) (leb q newest) ≡ Err p → refused_at p ≡ decoded_of t
    unfolding decoded_of
    place-wrong {p} e = let z : read_as history_form t ≡ wrong p = one_more ∙ rw e refl in sym (ap answer_to z)

    pub place-right : (x : Settings) → settings_at t (7 + 8 * q) (leb q newest) ≡ Ok x → Reading t newest (q + 1) (set kept q x)
    place-right x e =
        record {
          within = omega arith;
          long = length-set kept q x ∙ r.long;
          whole =
              one_more
              ∙ rw e refl
              ∙ ap₂ (λ (i j : ℕ). behind i (read_as (places_form (32 - (q + 1)) j newest (λ xs. done (history newest (take q kept ++ (x ∷ xs))))) (drop i t)))
              (let z : 7 + 8 * q + 8 ≡ 7 + 8 * (q + 1) = omega arith in z) (sym (add-one q))
              ∙ ap (λ (f : List Settings → Form History). behind (7 + 8 * (q + 1)) (read_as (places_form (32 - (q + 1)) (q + 1) newest f) (drop (7 + 8 * (q + 1)) t)))
              (λ i xs. done (history newest (stored xs i)));
        }
      where
        stored : (xs : List Settings) → take q kept ++ (x ∷ xs) ≡ take (q + 1) (set kept q x) ++ xs
        stored xs =
            sym (append_assoc (take q kept) (x ∷ []) xs)
            ∙ ap (λ (ys : List Settings). ys ++ xs) (sym (ap (λ (i : ℕ). take i (set kept q x)) (add-one q) ∙ take-suc-set kept q x (omega (arith, r.long))))

  module _ (h : q ≡ 32) where
    at-end : read_as history_form t ≡ behind 263 (read_as (done (history newest kept)) (drop 263 t))
    unfolding places_form
    at-end =
        r.whole
        ∙ ap (λ (i : ℕ). behind (7 + 8 * i) (read_as (places_form (32 - i) i newest (λ xs. done (history newest (take i kept ++ xs)))) (drop (7 + 8 * i) t))) h
        ∙ ap (λ (ys : List Settings). behind 263 (read_as (done (history newest ys)) (drop 263 t))) (append-nil (take 32 kept) ∙ take_all 32 kept (omega (arith, r.long)))

    pub too_long : 263 < length t → refused_at 263 ≡ decoded_of t
    unfolding decoded_of
    too_long l = sym (ap answer_to (at-end ∙ more-read t 263 (history newest kept) l))

    pub all_read : length t ≤ 263 → record { refusal = 0; place = 0; history = history newest kept } ≡ decoded_of t
    unfolding decoded_of
    all_read l = sym (ap answer_to (at-end ∙ end_read t 263 (history newest kept) l))
