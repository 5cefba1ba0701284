-- What holds of each or of some member of a list, of lists joined and of lists of values. Assumes nothing.
use Rattle.std.specs.Prelude.{refl, ◌⊎◌, List, [], ◌∷◌, ◌++◌, map}
use Rattle.std.proofs.Common.{inl, inr, ⊎_elim}
use Rattle.logic.specs.Lists.{All, Any, Mem}

-- ---- each

module _ {A : Type 0} where
  pub all_append : (P : A → Type 0) (xs ys : List A) → All P xs → All P ys → All P (xs ++ ys)
  all_append P [] ys g h = h
  all_append P (x ∷ xs) ys g h = (g.0, all_append P xs ys g.1 h)

  pub all-each : (P Q : A → Type 0) → ((x : A) → P x → Q x) → (xs : List A) → All P xs → All Q xs
  all-each P Q h [] g = tt
  all-each P Q h (x ∷ xs) g = (h x g.0, all-each P Q h xs g.1)

  pub all_map : {B : Type 0} (P : A → Type 0) (Q : B → Type 0) (f : A → B) → ((x : A) → P x → Q (f x)) → (xs : List A) → All P xs → All Q (map f xs)
  all_map P Q f h [] g = tt
  all_map P Q f h (x ∷ xs) g = (h x g.0, all_map P Q f h xs g.1)

  -- ---- some

  pub any_left : (P : A → Type 0) (xs ys : List A) → Any P xs → Any P (xs ++ ys)
  any_left P [] ys h = absurd h
  any_left P (x ∷ xs) ys (inl h) = inl h
  any_left P (x ∷ xs) ys (inr h) = inr (any_left P xs ys h)

  pub any-right : (P : A → Type 0) (xs ys : List A) → Any P ys → Any P (xs ++ ys)
  any-right P [] ys h = h
  any-right P (x ∷ xs) ys h = inr (any-right P xs ys h)

  pub any-or : (P : A → Type 0) (xs ys : List A) → Any P (xs ++ ys) → Any P xs ⊎ Any P ys
  any-or P [] ys h = inr h
  any-or P (x ∷ xs) ys (inl h) = inl (inl h)
  any-or P (x ∷ xs) ys (inr h) = ⊎_elim (λ k. inl (inr k)) (λ k. inr k) (any-or P xs ys h)

  pub any-each : (P Q : A → Type 0) → ((x : A) → P x → Q x) → (xs : List A) → Any P xs → Any Q xs
  any-each P Q h [] g = absurd g
  any-each P Q h (x ∷ xs) (inl g) = inl (h x g)
  any-each P Q h (x ∷ xs) (inr g) = inr (any-each P Q h xs g)

  pub any-map : {B : Type 0} (P : A → Type 0) (Q : B → Type 0) (f : A → B) → ((x : A) → P x → Q (f x)) → (xs : List A) → Any P xs → Any Q (map f xs)
  any-map P Q f h [] g = absurd g
  any-map P Q f h (x ∷ xs) (inl g) = inl (h x g)
  any-map P Q f h (x ∷ xs) (inr g) = inr (any-map P Q f h xs g)

  -- ---- members

  pub any-mem : (P : A → Type 0) (xs : List A) → Any P xs → (x : A) × Mem x xs × P x
  any-mem P [] h = absurd h
  any-mem P (x ∷ xs) (inl h) = (x, inl refl, h)
  any-mem P (x ∷ xs) (inr h) = let k = any-mem P xs h in (k.0, inr k.1, k.2)

  pub mem-any : (P : A → Type 0) (xs : List A) (y : A) → Mem y xs → P y → Any P xs
  mem-any P [] y m h = absurd m
  mem-any P (x ∷ xs) y (inl e) h = inl (rw e h)
  mem-any P (x ∷ xs) y (inr m) h = inr (mem-any P xs y m h)

  pub mem-all : (P : A → Type 0) (xs : List A) (y : A) → All P xs → Mem y xs → P y
  mem-all P [] y g m = absurd m
  mem-all P (x ∷ xs) y g (inl e) = rw (← e) g.0
  mem-all P (x ∷ xs) y g (inr m) = mem-all P xs y g.1 m

  pub all-mem : (P : A → Type 0) (xs : List A) → ((x : A) → Mem x xs → P x) → All P xs
  all-mem P [] h = tt
  all-mem P (x ∷ xs) h = (h x (inl refl), all-mem P xs (λ y m. h y (inr m)))
