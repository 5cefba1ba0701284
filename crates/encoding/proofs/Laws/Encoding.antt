-- Encoding and decoding undo each other; bytes that are no encoding get 9, with the longest leading part that some encoding begins with. Assumes nothing.
use Rattle.std.specs.Prelude.{◌≡◌, ◌↔◌, ◌⊎◌, List, [], ◌∷◌, ◌++◌, ℕ, zero, suc, ◌+◌, ◌*◌, ◌<◌, length, get_or, set, replicate, take, drop}
use Rattle.std.proofs.Math.Path.{refl}
use Rattle.std.proofs.Common.{sym, ap, subst, ◌∙◌, ⊎_elim, append_assoc, arith, length-append, take_at, drop_at, drop-drop}
use Rattle.std.proofs.Math.Logic.{inl, inr}
use Rattle.logic.specs.Longest.{LongestOf}
use Rattle.ternary.specs.Digits.{digits, Below}
use Rattle.ternary.proofs.Laws.Digits.{length_digits, digits-below}
use Rattle.fields.specs.Form.{Spells, Spelled}
use Rattle.fields.specs.Read.{reach, Read, said, wrong, read_as}
use Rattle.fields.proofs.Laws.Read.{Right, read_right, said_read}
use Rattle.history.specs.declared.Settings.{Settings}
use Rattle.history.specs.declared.History.{History}
use Rattle.history.specs.Settings.{none, settings_refusal}
use Rattle.history.specs.Log.{Call, after}
use Rattle.history.specs.History.{empty, fresh, keeper}
use Rattle.history.specs.Valid.{Valid}
use Rattle.history.proofs.Laws.Valid.{runs-valid}
use Rattle.encoding.specs.declared.Decoded.{Decoded}
use Rattle.encoding.specs.Encoding.{mark, settings_bytes, places_bytes, encoding_of, Encodes}
use Rattle.encoding.specs.Decoding.{history_form, answer_to, decoded_of}
use Rattle.encoding.proofs.Internal.Spelling.{sound, spells-encoding, encoding-spells}

-- ---- bytes

below-append : (b : ℕ) (s t : List ℕ) → Below b s → Below b t → Below b (s ++ t)
below-append b [] t h k = k
below-append b (x ∷ s) t h k = (h.0, below-append b s t h.1 k)

number-bytes : (w x : ℕ) → Below 256 (digits 256 w x)
number-bytes w x = digits-below 256 w x (omega arith)

pub settings-length : (x : Settings) → length (settings_bytes x) ≡ 8
unfolding settings_bytes
settings-length x =
    let a = digits 256 1 x.n in
    let b = digits 256 1 x.s in
    let c = digits 256 1 x.resolution in
    let d = digits 256 5 x.eccentricity in
    omega (
      arith,
      length-append a (b ++ (c ++ d)),
      length-append b (c ++ d),
      length-append c d,
      length_digits 256 1 x.n,
      length_digits 256 1 x.s,
      length_digits 256 1 x.resolution,
      length_digits 256 5 x.eccentricity,
    )

settings-below : (x : Settings) → Below 256 (settings_bytes x)
unfolding settings_bytes
settings-below x =
    let a = digits 256 1 x.n in
    let b = digits 256 1 x.s in
    let c = digits 256 1 x.resolution in
    let d = digits 256 5 x.eccentricity in
    below-append 256 a (b ++ (c ++ d)) (number-bytes 1 x.n)
    (below-append 256 b (c ++ d) (number-bytes 1 x.s) (below-append 256 c d (number-bytes 1 x.resolution) (number-bytes 5 x.eccentricity)))

pub places-length : (k q : ℕ) (kept : List Settings) → length (places_bytes k q kept) ≡ 8 * k
unfolding places_bytes
places-length zero q kept = refl
places-length (suc k) q kept =
    let x = get_or kept q none in
    omega (arith, length-append (settings_bytes x) (places_bytes k (suc q) kept), settings-length x, places-length k (suc q) kept)

places-below : (k q : ℕ) (kept : List Settings) → Below 256 (places_bytes k q kept)
unfolding places_bytes
places-below zero q kept = tt
places-below (suc k) q kept = below-append 256 (settings_bytes (get_or kept q none)) (places_bytes k (suc q) kept) (settings-below (get_or kept q none)) (places-below k (suc q) kept)

-- an encoding has 263 bytes, whatever the history is
pub encoding-length : (h : History) → length (encoding_of h) ≡ 263
unfolding encoding_of
encoding-length h =
    let d = digits 256 2 h.newest in
    let b = places_bytes 32 0 h.kept in
    omega (arith, length-append mark (d ++ b), length-append d b, length_digits 256 2 h.newest, places-length 32 0 h.kept)

pub encoding-bytes : (h : History) → Below 256 (encoding_of h)
unfolding encoding_of
encoding-bytes h =
    let d = digits 256 2 h.newest in
    let b = places_bytes 32 0 h.kept in
    below-append 256 mark (d ++ b) (omega arith, (omega arith, (omega arith, (omega arith, (omega arith, tt))))) (below-append 256 d b (number-bytes 2 h.newest) (places-below 32 0 h.kept))

-- ---- where each place stands

places-at : (k p q : ℕ) (kept : List Settings) → q < k → take 8 (drop (8 * q) (places_bytes k p kept)) ≡ settings_bytes (get_or kept (p + q) none)
unfolding places_bytes
places-at zero p q kept l = absurd (omega arith)
places-at (suc k) p zero kept l =
    let x = get_or kept p none in
    let a : p ≡ p + 0 = omega arith in
    take_at (settings_bytes x) (places_bytes k (suc p) kept) 8 (settings-length x) ∙ ap (λ (i : ℕ). settings_bytes (get_or kept i none)) a
places-at (suc k) p (suc q) kept l =
    let x = get_or kept p none in
    let a : suc p + q ≡ p + suc q = omega arith in
    let b : 8 * suc q ≡ 8 + 8 * q = omega arith in
    ap (take 8)
    (ap (λ (i : ℕ). drop i (settings_bytes x ++ places_bytes k (suc p) kept)) b
    ∙ sym (drop-drop (8 * q) 8 (settings_bytes x ++ places_bytes k (suc p) kept))
    ∙ ap (drop (8 * q)) (drop_at (settings_bytes x) (places_bytes k (suc p) kept) 8 (settings-length x)))
    ∙ places-at k (suc p) q kept (omega arith) ∙ ap (λ (i : ℕ). settings_bytes (get_or kept i none)) a

-- behind the mark, the version and the newest revision, place q has the 8 bytes from 7 + 8 q on
pub encoding-place : (h : History) (q : ℕ) → q < 32 → take 8 (drop (7 + 8 * q) (encoding_of h)) ≡ settings_bytes (get_or h.kept q none)
unfolding encoding_of
encoding-place h q l =
    let front = mark ++ digits 256 2 h.newest in
    let places = places_bytes 32 0 h.kept in
    let n : length front ≡ 7 = omega (arith, length-append mark (digits 256 2 h.newest), length_digits 256 2 h.newest) in
    ap (take 8)
    (ap (drop (7 + 8 * q)) (sym (append_assoc mark (digits 256 2 h.newest) places))
    ∙ sym (drop-drop (8 * q) 7 (front ++ places)) ∙ ap (drop (8 * q)) (drop_at front places 7 n))
    ∙ places-at 32 0 q h.kept l ∙ ap (λ (i : ℕ). settings_bytes (get_or h.kept i none)) (let z : 0 + q ≡ q = omega arith in z)

-- ---- decoding undoes encoding

pub decode-encode : (h : History) → Valid h → decoded_of (encoding_of h) ≡ record { refusal = 0; place = 0; history = h }
unfolding decoded_of
decode-encode h v = ap answer_to (said_read history_form sound h (encoding_of h) (encoding-bytes h) (encoding-spells h v))

-- so two valid histories have two encodings
pub encoding-one : (g h : History) → Valid g → Valid h → encoding_of g ≡ encoding_of h → g ≡ h
encoding-one g h v w e = ap (λ (d : Decoded). d.history) (sym (decode-encode g v) ∙ ap decoded_of e ∙ decode-encode h w)

-- ---- and takes any bytes

module _ (t : List ℕ) (bytes : Below 256 t) where
  encodes-spelled : Encodes t → Spelled history_form t
  encodes-spelled (h, v, e) = (h, subst (Spells history_form h) (sym e) (encoding-spells h v))

  -- what holds of the answer, by what was read
  abbrev Answers : Decoded → Type 0
  Answers d =
      ((d.refusal ≡ 0) × (d.place ≡ 0) × Valid d.history × (t ≡ encoding_of d.history))
      ⊎ ((d.refusal ≡ 9) × LongestOf Encodes t d.place × (Encodes t → ⊥))

  spelled-longest : (k : ℕ) → LongestOf (Spelled history_form) t k → LongestOf Encodes t k
  spelled-longest k l =
      record {
        within = l.within;
        begun = let z = l.begun in let s = spells-encoding z.1.0 (take k t ++ z.0) z.1.1 in (z.0, (z.1.0, s.0, s.1));
        longest = λ j i z. l.longest j i (z.0, (z.1.0, subst (Spells history_form z.1.0) (sym z.1.2) (encoding-spells z.1.0 z.1.1)));
      }

  answers : Answers (decoded_of t)
  unfolding decoded_of
  answers = go (read_as history_form t) (read_right history_form sound t bytes)
    where
      go : (r : Read History) → Right history_form t r → Answers (answer_to r)
      go (said h) g = let s = spells-encoding h t g in inl (refl, refl, s.0, s.1)
      go (wrong k) g = inr (refl, spelled-longest k g.0, λ e. g.1 (encodes-spelled e))

  -- exactly the encodings are accepted
  pub encodes-exactly : ((decoded_of t).refusal ≡ 0) ↔ Encodes t
  encodes-exactly = (
    λ e. ⊎_elim (λ a. ((decoded_of t).history, a.2, a.3)) (λ a. let z : ◌≡◌ {A = ℕ} 0 9 = sym e ∙ a.0 in absurd (omega arith)) answers,
    λ e. ⊎_elim (λ a. a.0) (λ a. absurd (a.2 e)) answers,
  )

  -- and everything else gets 9
  pub nine-exactly : ((decoded_of t).refusal ≡ 9) ↔ (Encodes t → ⊥)
  nine-exactly = (
    λ e. ⊎_elim (λ a. let z : ◌≡◌ {A = ℕ} 0 9 = sym a.0 ∙ e in absurd (omega arith)) (λ a. a.2) answers,
    λ n. ⊎_elim (λ a. absurd (n ((decoded_of t).history, a.2, a.3))) (λ a. a.0) answers,
  )

  -- encoding undoes decoding
  pub encode-decode : (decoded_of t).refusal ≡ 0 → Valid (decoded_of t).history × (encoding_of (decoded_of t).history ≡ t)
  encode-decode e = ⊎_elim (λ a. (a.2, sym a.3)) (λ a. let z : ◌≡◌ {A = ℕ} 0 9 = sym e ∙ a.0 in absurd (omega arith)) answers

  -- "the place is the length of the longest leading part" that some encoding begins with
  pub decode-place : (decoded_of t).refusal ≡ 9 → LongestOf Encodes t (decoded_of t).place
  decode-place e = ⊎_elim (λ a. let z : ◌≡◌ {A = ℕ} 0 9 = sym a.0 ∙ e in absurd (omega arith)) (λ a. a.1) answers

-- no bytes at all
pub decode-nothing : decoded_of [] ≡ record { refusal = 9; place = 0; history = empty }
unfolding decoded_of read_as history_form reach
decode-nothing = refl

-- ---- bytes worked out by hand: the mark, the version, revision 1, and the two places that it has reached, the eccentricity that of WGS84

pub written_out :
    take 32 (encoding_of (record {
      newest = 1;
      kept = set (set (replicate 32 none) 0 (record { n = 1; s = 2; resolution = 9; eccentricity = 6694379990 })) 1
          (record { n = 0; s = 3; resolution = 15; eccentricity = 10000000000 });
    }))
    ≡ 74 ∷ 71 ∷ 83 ∷ 0 ∷ 1 ∷ 0 ∷ 1 ∷
    1 ∷ 2 ∷ 9 ∷ 1 ∷ 143 ∷ 4 ∷ 33 ∷ 214 ∷
    0 ∷ 3 ∷ 15 ∷ 2 ∷ 84 ∷ 11 ∷ 228 ∷ 0 ∷
    0 ∷ 0 ∷ 0 ∷ 0 ∷ 0 ∷ 0 ∷ 0 ∷ 0 ∷ 0 ∷ []
unfolding encoding_of places_bytes settings_bytes digits
written_out = refl

-- what any run of calls from a fresh history hands back is decoded from its encoding
pub run-encoded : (x : Settings) → settings_refusal x ≡ 0 → (run : List Call) →
    let h = after keeper (fresh x).history run in
    decoded_of (encoding_of h) ≡ record { refusal = 0; place = 0; history = h }
run-encoded x e run = decode-encode (after keeper (fresh x).history run) (runs-valid x e run)
