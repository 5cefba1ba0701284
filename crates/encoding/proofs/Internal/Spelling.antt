-- The bytes that the form of a history allows are the encodings of valid histories. Assumes nothing.
use Rattle.std.specs.Prelude.{◌≡◌, Bool, ℕ, zero, suc, ◌+◌, ◌≤◌, ◌<◌, leb, length, get_or}
use Rattle.std.proofs.Math.Path.{refl, sym, ap}
use Rattle.std.proofs.Common.{ap₂, subst, ◌∙◌, leb-true, leb-false, le-leb}
use Rattle.std.proofs.Math.Bool.{true, false}
use mathlib.Core.List.{List, [], ◌∷◌, ◌++◌, append-nil, append_assoc}
use Rattle.std.proofs.Math.Nat.{suc_inj}
use native.Mathlib.Omega.{arith}
use Rattle.std.proofs.lemmas.Bool.{lt-leb}
use Rattle.logic.specs.Laws.Bools.{clash}
use Rattle.ternary.specs.Digits.{digits}
use Rattle.fields.specs.Form.{Form, done, Spells, Sound}
use Rattle.history.specs.declared.Settings.{Settings}
use Rattle.history.specs.declared.History.{History}
use Rattle.history.specs.Settings.{none, settings_refusal, GoodSettings}
use Rattle.history.proofs.Laws.Settings.{good-exactly}
use Rattle.history.specs.Valid.{Valid}
use Rattle.encoding.specs.Encoding.{mark, settings_bytes, places_bytes, encoding_of}
use Rattle.encoding.specs.Decoding.{up_to, settings, settings_form, places_form, history_form}

-- ---- one place

-- what may stand at a place
abbrev InPlace : (reached : Bool) → Settings → Type 0
InPlace true x = GoodSettings x
InPlace false x = x ≡ none

in_place : (reached : Bool) (n s k e : ℕ) → n ≤ up_to reached 3 → s ≤ up_to reached 3 → k ≤ up_to reached 15 → e ≤ up_to reached 10000000000 → InPlace reached (settings n s k e)
in_place true n s k e a b c d = record { north = a; south = b; fine = c; round = d }
in_place false n s k e a b c d =
    let p : n ≡ 0 = omega arith in
    let q : s ≡ 0 = omega arith in
    let r : k ≡ 0 = omega arith in
    let o : e ≡ 0 = omega arith in
    λ i. record { n = p i; s = q i; resolution = r i; eccentricity = o i }

record Limits (reached : Bool) (x : Settings) : Type 0 where
  north : x.n ≤ up_to reached 3
  south : x.s ≤ up_to reached 3
  fine : x.resolution ≤ up_to reached 15
  round : x.eccentricity ≤ up_to reached 10000000000

place-limits : (reached : Bool) (x : Settings) → InPlace reached x → Limits reached x
place-limits true x g = record { north = g.north; south = g.south; fine = g.fine; round = g.round }
place-limits false x g =
    let p : x.n ≡ 0 = ap (λ (y : Settings). y.n) g in
    let q : x.s ≡ 0 = ap (λ (y : Settings). y.s) g in
    let r : x.resolution ≡ 0 = ap (λ (y : Settings). y.resolution) g in
    let o : x.eccentricity ≡ 0 = ap (λ (y : Settings). y.eccentricity) g in
    record { north = omega arith; south = omega arith; fine = omega arith; round = omega arith }

module _ {A : Type 0} (reached : Bool) (next : Settings → Form A) where
  joined : (a b c d u : List ℕ) → (a ++ (b ++ (c ++ d))) ++ u ≡ a ++ (b ++ (c ++ (d ++ u)))
  joined a b c d u = simp append_assoc

  spells-settings : (y : A) (t : List ℕ) → Spells (settings_form reached next) y t → (x : Settings) × InPlace reached x × ((u : List ℕ) × (t ≡ settings_bytes x ++ u) × Spells (next x) y u)
  unfolding settings_form settings_bytes
  spells-settings y t (n, n-low, n-high, (t1, p, (s, s-low, s-high, (t2, q, (k, k-low, k-high, (t3, r, (e, e-low, e-high, (u, o, h)))))))) = (
    settings n s k e,
    in_place reached n s k e n-high s-high k-high e-high,
    (
      u,
      p
          ∙ ap (λ (a : List ℕ). digits 256 1 n ++ a)
          (q ∙ ap (λ (b : List ℕ). digits 256 1 s ++ b) (r ∙ ap (λ (c : List ℕ). digits 256 1 k ++ c) o))
          ∙ sym (joined (digits 256 1 n) (digits 256 1 s) (digits 256 1 k) (digits 256 5 e) u),
      h,
    ),
  )

  settings-spells : (y : A) (x : Settings) (u : List ℕ) → InPlace reached x → Spells (next x) y u → Spells (settings_form reached next) y (settings_bytes x ++ u)
  unfolding settings_form settings_bytes
  settings-spells y x u g h =
      let l = place-limits reached x g in
      let a = digits 256 1 x.n in
      let b = digits 256 1 x.s in
      let c = digits 256 1 x.resolution in
      let d = digits 256 5 x.eccentricity in (
        x.n,
        omega arith,
        l.north,
        (
          b ++ (c ++ (d ++ u)),
          joined a b c d u,
          (
            x.s,
            omega arith,
            l.south,
            (c ++ (d ++ u), refl, (x.resolution, omega arith, l.fine, (d ++ u, refl, (x.eccentricity, omega arith, l.round, (u, refl, h))))),
          ),
        ),
      )

  settings-sound : ((x : Settings) → Sound (next x)) → Sound (settings_form reached next)
  unfolding settings_form
  settings-sound h = go reached
    where
      go : (r : Bool) → Sound (settings_form r next)
      go true = (omega arith, omega arith, λ n a b. (omega arith, omega arith, λ s c d. (omega arith, omega arith, λ k e f. (omega arith, omega arith, λ o g i. h (settings n s k o)))))
      go false = (omega arith, omega arith, λ n a b. (omega arith, omega arith, λ s c d. (omega arith, omega arith, λ k e f. (omega arith, omega arith, λ o g i. h (settings n s k o)))))

-- ---- all places

-- they stand from number q on
abbrev InPlaces : (q newest : ℕ) → List Settings → Type 0
InPlaces q newest [] = Unit {0}
InPlaces q newest (x ∷ xs) = InPlace (leb q newest) x × InPlaces (suc q) newest xs

-- the bytes of a list's end
shifted : (k q : ℕ) (x : Settings) (xs : List Settings) → places_bytes k (suc q) (x ∷ xs) ≡ places_bytes k q xs
unfolding places_bytes
shifted zero q x xs = refl
shifted (suc k) q x xs = ap (λ (t : List ℕ). settings_bytes (get_or xs q none) ++ t) (shifted k (suc q) x xs)

spells-places : {A : Type 0} (k q newest : ℕ) (next : List Settings → Form A) (y : A) (t : List ℕ) → Spells (places_form k q newest next) y t →
    (xs : List Settings) × (length xs ≡ k) × InPlaces q newest xs × ((u : List ℕ) × (t ≡ places_bytes k 0 xs ++ u) × Spells (next xs) y u)
unfolding places_form places_bytes
spells-places zero q newest next y t h = ([], refl, tt, (t, refl, h))
spells-places (suc k) q newest next y t h =
    let a = spells-settings (leb q newest) (λ x. places_form k (suc q) newest (λ xs. next (x ∷ xs))) y t h in
    let x = a.0 in
    let b = spells-places k (suc q) newest (λ xs. next (x ∷ xs)) y a.2.0 a.2.2 in
    let xs = b.0 in
    let e : t ≡ (settings_bytes x ++ places_bytes k 1 (x ∷ xs)) ++ b.3.0 =
    a.2.1 ∙ ap (λ (v : List ℕ). settings_bytes x ++ v) (b.3.1 ∙ ap (λ (v : List ℕ). v ++ b.3.0) (sym (shifted k 0 x xs)))
    ∙ sym (append_assoc (settings_bytes x) (places_bytes k 1 (x ∷ xs)) b.3.0) in
    (x ∷ xs, ap suc b.1, (a.1, b.2), (b.3.0, e, b.3.2))

places-spells : {A : Type 0} (k q newest : ℕ) (next : List Settings → Form A) (y : A) (xs : List Settings) (u : List ℕ) → length xs ≡ k → InPlaces q newest xs → Spells (next xs) y u →
    Spells (places_form k q newest next) y (places_bytes k 0 xs ++ u)
unfolding places_form places_bytes
places-spells zero q newest next y [] u n g h = h
places-spells zero q newest next y (x ∷ xs) u n g h = absurd (omega arith)
places-spells (suc k) q newest next y [] u n g h = absurd (omega arith)
places-spells (suc k) q newest next y (x ∷ xs) u n g h =
    let e : (settings_bytes x ++ places_bytes k 1 (x ∷ xs)) ++ u ≡ settings_bytes x ++ (places_bytes k 0 xs ++ u) =
    append_assoc (settings_bytes x) (places_bytes k 1 (x ∷ xs)) u ∙ ap (λ (v : List ℕ). settings_bytes x ++ (v ++ u)) (shifted k 0 x xs) in
    rw e
    (settings-spells (leb q newest) (λ z. places_form k (suc q) newest (λ zs. next (z ∷ zs))) y x (places_bytes k 0 xs ++ u) g.0
    (places-spells k (suc q) newest (λ zs. next (x ∷ zs)) y xs u (suc_inj n) g.1 h))

places-sound : {A : Type 0} (k q newest : ℕ) (next : List Settings → Form A) → ((xs : List Settings) → Sound (next xs)) → Sound (places_form k q newest next)
unfolding places_form
places-sound zero q newest next h = h []
places-sound (suc k) q newest next h =
    settings-sound (leb q newest) (λ x. places_form k (suc q) newest (λ xs. next (x ∷ xs))) (λ x. places-sound k (suc q) newest (λ xs. next (x ∷ xs)) (λ xs. h (x ∷ xs)))

-- ---- valid histories

-- reached or not, by its number
reached-place : (q newest : ℕ) (x : Settings) → (q ≤ newest → settings_refusal x ≡ 0) → (newest < q → x ≡ none) → InPlace (leb q newest) x
reached-place q newest x f g = go (leb q newest) refl
  where
    go : (b : Bool) → leb q newest ≡ b → InPlace b x
    go true e = (good-exactly x).0 (f (leb-true q newest e))
    go false e = g (leb-false q newest e)

valid-places : (q newest : ℕ) (xs : List Settings) → ((i : ℕ) → i < length xs → q + i ≤ newest → settings_refusal (get_or xs i none) ≡ 0) →
    ((i : ℕ) → i < length xs → newest < q + i → get_or xs i none ≡ none) → InPlaces q newest xs
valid-places q newest [] f g = tt
valid-places q newest (x ∷ xs) f g = (
  reached-place q newest x (λ h. f 0 (omega arith) (omega arith)) (λ h. g 0 (omega arith) (omega arith)),
  valid-places (suc q) newest xs (λ i l h. f (suc i) (omega arith) (omega arith)) (λ i l h. g (suc i) (omega arith) (omega arith)),
)

place-reached : (q newest : ℕ) (x : Settings) → InPlace (leb q newest) x → q ≤ newest → settings_refusal x ≡ 0
place-reached q newest x g h = (good-exactly x).1 (go (leb q newest) (le-leb q newest h) g)
  where
    go : (b : Bool) → b ≡ true → InPlace b x → GoodSettings x
    go true e k = k
    go false e k = clash (sym e)

place_other : (q newest : ℕ) (x : Settings) → InPlace (leb q newest) x → newest < q → x ≡ none
place_other q newest x g h = go (leb q newest) (lt-leb q newest h) g
  where
    go : (b : Bool) → b ≡ false → InPlace b x → x ≡ none
    go true e k = clash e
    go false e k = k

places-reached : (q newest : ℕ) (xs : List Settings) → InPlaces q newest xs → (i : ℕ) → i < length xs → q + i ≤ newest → settings_refusal (get_or xs i none) ≡ 0
places-reached q newest [] g i l h = absurd (omega arith)
places-reached q newest (x ∷ xs) g zero l h = place-reached q newest x g.0 (omega arith)
places-reached q newest (x ∷ xs) g (suc i) l h = places-reached (suc q) newest xs g.1 i (omega arith) (omega arith)

places-other : (q newest : ℕ) (xs : List Settings) → InPlaces q newest xs → (i : ℕ) → i < length xs → newest < q + i → get_or xs i none ≡ none
places-other q newest [] g i l h = absurd (omega arith)
places-other q newest (x ∷ xs) g zero l h = place_other q newest x g.0 (omega arith)
places-other q newest (x ∷ xs) g (suc i) l h = places-other (suc q) newest xs g.1 i (omega arith) (omega arith)

-- ---- the whole

pub mark-bytes : digits 256 5 319024201729 ≡ mark
unfolding digits
mark-bytes = refl

abbrev history : ℕ → List Settings → History
history newest kept = record { newest = newest; kept = kept }

pub sound : Sound history_form
unfolding history_form
sound = (omega arith, omega arith, λ m a b. (omega arith, omega arith, λ n c d. places-sound 32 0 n (λ xs. done (history n xs)) (λ xs. tt)))

pub spells-encoding : (h : History) (t : List ℕ) → Spells history_form h t → Valid h × (t ≡ encoding_of h)
unfolding history_form encoding_of
spells-encoding h t (m, m-low, m-high, (u, p, (n, n-low, n-high, (v, q, r)))) =
    let a = spells-places 32 0 n (λ xs. done (history n xs)) h v r in
    let xs = a.0 in
    let e : m ≡ 319024201729 = omega arith in
    let k : t ≡ mark ++ (digits 256 2 n ++ places_bytes 32 0 xs) =
    p
    ∙ ap₂ (λ (x : ℕ) (y : List ℕ). digits 256 5 x ++ y) e
    (q ∙ ap (λ (y : List ℕ). digits 256 2 n ++ y) (a.3.1 ∙ ap (λ (y : List ℕ). places_bytes 32 0 xs ++ y) a.3.2.1 ∙ append-nil (places_bytes 32 0 xs)))
    ∙ ap (λ (y : List ℕ). y ++ (digits 256 2 n ++ places_bytes 32 0 xs)) mark-bytes in
    let g : Valid (history n xs) =
    record {
      few = n-high;
      places = a.1;
      reached = λ i l o. places-reached 0 n xs a.2 i (omega (arith, a.1)) (omega arith);
      others = λ i l o. places-other 0 n xs a.2 i (omega (arith, a.1)) (omega arith);
    } in
    subst (λ (z : History). Valid z × (t ≡ encoding_of z)) a.3.2.0 (g, k)

pub encoding-spells : (h : History) → Valid h → Spells history_form h (encoding_of h)
unfolding history_form encoding_of
encoding-spells h g =
    let n = h.newest in
    let xs = h.kept in
    let i : InPlaces 0 n xs =
    valid-places 0 n xs (λ j l o. g.reached j (omega (arith, g.places)) (omega arith)) (λ j l o. g.others j (omega (arith, g.places)) (omega arith)) in
    let s : Spells (places_form 32 0 n (λ zs. done (history n zs))) h (places_bytes 32 0 xs) =
    subst (Spells (places_form 32 0 n (λ zs. done (history n zs))) h) (append-nil (places_bytes 32 0 xs))
    (places-spells 32 0 n (λ zs. done (history n zs)) h xs [] g.places i (refl, refl)) in (
      319024201729,
      omega arith,
      omega arith,
      (
        digits 256 2 n ++ places_bytes 32 0 xs,
        ap (λ (y : List ℕ). y ++ (digits 256 2 n ++ places_bytes 32 0 xs)) (sym mark-bytes),
        (n, omega arith, g.few, (places_bytes 32 0 xs, refl, s)),
      ),
    )
