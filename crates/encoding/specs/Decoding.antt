-- Decoding as it is computed: the numbers of an encoding, each between its limits, up to the first byte that is wrong. Laws/Encoding shows that exactly
-- the encodings are decoded, to what they encode, and that the place is the longest leading part that some encoding begins with. Assumes nothing.
use Rattle.std.specs.Prelude.{Bool, cond, List, [], ◌∷◌, ℕ, zero, suc, ◌+◌, leb, Err, Ok, Result}
use Rattle.fields.specs.Form.{Form, done, number}
use Rattle.fields.specs.Read.{Read, said, wrong, read_as}
use Rattle.fields.specs.Number.{number_at}
use Rattle.history.specs.declared.Settings.{Settings}
use Rattle.history.specs.declared.History.{History}
use Rattle.encoding.specs.declared.Decoded.{Decoded}
use Rattle.history.specs.History.{empty}

-- a number up to this one; at a place that no revision has reached only 0
abbrev pub up_to : (reached : Bool) → ℕ → ℕ
up_to reached x = cond reached x 0

abbrev pub settings : (n s resolution eccentricity : ℕ) → Settings
settings n s k e = record { n = n; s = s; resolution = k; eccentricity = e }

unfoldable pub settings_form : {A : Type 0} → (reached : Bool) → (Settings → Form A) → Form A
settings_form reached next =
    number 1 0 (up_to reached 3)
    (λ n. number 1 0 (up_to reached 3) (λ s. number 1 0 (up_to reached 15) (λ k. number 5 0 (up_to reached 10000000000) (λ e. next (settings n s k e)))))

-- k places, from the one with number q on
unfoldable pub places_form : {A : Type 0} → (k q newest : ℕ) → (List Settings → Form A) → Form A
places_form zero q newest next = next []
places_form (suc k) q newest next = settings_form (leb q newest) (λ x. places_form k (suc q) newest (λ xs. next (x ∷ xs)))

-- the mark and the version are one number
unfoldable pub history_form : Form History
history_form =
    number 5 319024201729 319024201729 (λ m. number 2 0 65535 (λ newest. places_form 32 0 newest (λ xs. done (record { newest = newest; kept = xs }))))

-- 9 with the place, or the history
abbrev pub refused_at : ℕ → Decoded
refused_at k = record { refusal = 9; place = k; history = empty }

abbrev pub answer_to : Read History → Decoded
answer_to (said h) = record { refusal = 0; place = 0; history = h }
answer_to (wrong k) = refused_at k

unfoldable pub decoded_of : List ℕ → Decoded
decoded_of t = answer_to (read_as history_form t)

-- ---- at a place of the bytes, as the code answers it

-- what follows a number
abbrev pub with_number : Result ℕ ℕ → (ℕ → Result Settings ℕ) → Result Settings ℕ
with_number (Ok v) next = next v
with_number (Err place) next = Err place

unfoldable pub settings_at : (t : List ℕ) (at : ℕ) (reached : Bool) → Result Settings ℕ
settings_at t at reached =
    with_number (number_at t at 1 0 (up_to reached 3))
    (λ n.
    with_number (number_at t (at + 1) 1 0 (up_to reached 3))
    (λ s. with_number (number_at t (at + 2) 1 0 (up_to reached 15)) (λ k. with_number (number_at t (at + 3) 5 0 (up_to reached 10000000000)) (λ e. Ok (settings n s k e)))))

-- what follows settings
abbrev pub by_settings : {A : Type 0} → Result Settings ℕ → (Settings → Read A) → Read A
by_settings (Ok x) next = next x
by_settings (Err place) next = wrong place

-- the newest revision behind the mark and the version
abbrev pub then_number : Result ℕ ℕ → Result ℕ ℕ → Result ℕ ℕ
then_number (Ok v) next = next
then_number (Err place) next = Err place

unfoldable pub newest_in : List ℕ → Result ℕ ℕ
newest_in t = then_number (number_at t 0 5 319024201729 319024201729) (number_at t 5 2 0 65535)
