-- Laws of digits: a number and its digits determine each other. Assumes nothing.
use Rattle.std.specs.Prelude.{◌≡◌, refl, ℕ, zero, suc, ◌+◌, ◌-◌, ◌*◌, ◌/◌, ◌%◌, ◌^◌, ◌≤◌, ◌<◌, List, [], ◌∷◌, ◌++◌, length}
use Rattle.std.proofs.Common.{sym, ap, ap₂, ◌∙◌, pow-suc, mul_assoc, add-mul, mod-lt, div-add-mod', div-lt_iff_lt-mul, mul-le-mul_right, suc-mul, mul_comm, zero-mul, arith, length-append}
use Rattle.std.proofs.Math.Nat.{pow-zero, suc_inj}
use Rattle.ternary.specs.Digits.{value, digits, Below}

-- a quotient and a remainder are determined by their number
pub split_one : (d a b x y : ℕ) → a < d → b < d → x * d + a ≡ y * d + b → (x ≡ y) × (a ≡ b)
split_one d a b zero zero ha hb e = (refl, omega (arith, zero-mul d))
split_one d a b zero (suc y) ha hb e = absurd (omega (arith, zero-mul d, suc-mul y d))
split_one d a b (suc x) zero ha hb e = absurd (omega (arith, zero-mul d, suc-mul x d))
split_one d a b (suc x) (suc y) ha hb e =
    let r = split_one d a b x y ha hb (omega (arith, suc-mul x d, suc-mul y d)) in (ap suc r.0, r.1)

pub value-snoc : (b : ℕ) (ds : List ℕ) (d : ℕ) → value b (ds ++ (d ∷ [])) ≡ value b ds * b + d
unfolding value
value-snoc b [] d = rw (pow-zero b) (omega (arith, zero-mul b))
value-snoc b (e ∷ ds) d =
    let n : length (ds ++ (d ∷ [])) ≡ suc (length ds) = length-append ds (d ∷ []) ∙ omega arith in
    let p : e * b ^ length (ds ++ (d ∷ [])) ≡ e * b ^ length ds * b =
    ap (λ (x : ℕ). e * b ^ x) n ∙ ap (λ (x : ℕ). e * x) (pow-suc b (length ds)) ∙ sym (mul_assoc e (b ^ length ds) b) in
    let q : value b (ds ++ (d ∷ [])) ≡ value b ds * b + d = value-snoc b ds d in
    let r : (e * b ^ length ds + value b ds) * b ≡ e * b ^ length ds * b + value b ds * b = add-mul (e * b ^ length ds) (value b ds) b in
    omega arith

pub value-below : (b : ℕ) (ds : List ℕ) → Below b ds → value b ds < b ^ length ds
unfolding value
value-below b [] h = rw (pow-zero b) (omega arith)
value-below b (d ∷ ds) h =
    let v : value b ds < b ^ length ds = value-below b ds h.1 in
    let m : suc d * b ^ length ds ≤ b * b ^ length ds = mul-le-mul_right (b ^ length ds) h.0 in
    let s : suc d * b ^ length ds ≡ d * b ^ length ds + b ^ length ds = suc-mul d (b ^ length ds) in
    let p : b ^ suc (length ds) ≡ b * b ^ length ds = pow-suc b (length ds) ∙ mul_comm (b ^ length ds) b in
    omega arith

pub length_digits : (b k x : ℕ) → length (digits b k x) ≡ k
unfolding digits
length_digits b zero x = refl
length_digits b (suc k) x = length-append (digits b k (x / b)) (x % b ∷ []) ∙ (let e = length_digits b k (x / b) in omega arith)

pub below-snoc : (b : ℕ) (ds : List ℕ) (d : ℕ) → Below b ds → d < b → Below b (ds ++ (d ∷ []))
below-snoc b [] d h k = (k, tt)
below-snoc b (e ∷ ds) d h k = (h.0, below-snoc b ds d h.1 k)

pub digits-below : (b k x : ℕ) → 0 < b → Below b (digits b k x)
unfolding digits
digits-below b zero x p = tt
digits-below b (suc k) x p = below-snoc b (digits b k (x / b)) (x % b) (digits-below b k (x / b) p) (mod-lt x p)

-- a number is the value of its digits
pub value-digits : (b k x : ℕ) → 0 < b → x < b ^ k → value b (digits b k x) ≡ x
unfolding digits value
value-digits b zero x p h = omega (arith, pow-zero b)
value-digits b (suc k) x p h =
    let q : x / b < b ^ k = (div-lt_iff_lt-mul {k = b} {x = x} {y = b ^ k} p).1 (omega (arith, pow-suc b k)) in
    value-snoc b (digits b k (x / b)) (x % b) ∙ ap (λ (y : ℕ). y * b + x % b) (value-digits b k (x / b) p q) ∙ div-add-mod' x b

-- as many digits with the same value are the same digits
pub value-one : (b : ℕ) (ds es : List ℕ) → Below b ds → Below b es → length ds ≡ length es → value b ds ≡ value b es → ds ≡ es
unfolding value
value-one b [] [] h k l e = refl
value-one b [] (x ∷ es) h k l e = absurd (omega arith)
value-one b (d ∷ ds) [] h k l e = absurd (omega arith)
value-one b (d ∷ ds) (x ∷ es) h k l e =
    let n : length ds ≡ length es = suc_inj l in
    let f : d * b ^ length ds + value b ds ≡ x * b ^ length ds + value b es = e ∙ ap (λ (y : ℕ). x * b ^ y + value b es) (sym n) in
    let u : value b es < b ^ length ds = rw n (value-below b es k.1) in
    let r = split_one (b ^ length ds) (value b ds) (value b es) d x (value-below b ds h.1) u f in
    ap₂ ◌∷◌ r.0 (value-one b ds es h.1 k.1 n r.1)

-- digits are those of their value
pub digits_value : (b : ℕ) (ds : List ℕ) → 0 < b → Below b ds → digits b (length ds) (value b ds) ≡ ds
digits_value b ds p h =
    value-one b (digits b (length ds) (value b ds)) ds (digits-below b (length ds) (value b ds) p) h (length_digits b (length ds) (value b ds))
    (value-digits b (length ds) (value b ds) p (value-below b ds h))
