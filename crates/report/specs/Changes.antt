-- What `coverage rescue` says of each change (02, W-206): its place, its kind and what the kind means. Assumes nothing.
use Rattle.std.specs.Prelude.{cond, List, [], ◌∷◌, ◌++◌, ℕ, eqb}
use Rattle.decimal.specs.Decimal.{printed}

-- " named already, or inside a whole cell"; each ends with a line feed
abbrev pub already_named : List ℕ
already_named =
    32 ∷ 110 ∷ 97 ∷ 109 ∷ 101 ∷ 100 ∷ 32 ∷ 97 ∷ 108 ∷ 114 ∷ 101 ∷ 97 ∷ 100 ∷ 121 ∷ 44 ∷ 32 ∷ 111 ∷ 114 ∷ 32 ∷
    105 ∷ 110 ∷ 115 ∷ 105 ∷ 100 ∷ 101 ∷ 32 ∷ 97 ∷ 32 ∷ 119 ∷ 104 ∷ 111 ∷ 108 ∷ 101 ∷ 32 ∷ 99 ∷ 101 ∷ 108 ∷ 108 ∷ 10 ∷ []

-- " not above the one right before it"
abbrev pub not_above : List ℕ
not_above =
    32 ∷ 110 ∷ 111 ∷ 116 ∷ 32 ∷ 97 ∷ 98 ∷ 111 ∷ 118 ∷ 101 ∷ 32 ∷ 116 ∷ 104 ∷ 101 ∷ 32 ∷ 111 ∷ 110 ∷
    101 ∷ 32 ∷ 114 ∷ 105 ∷ 103 ∷ 104 ∷ 116 ∷ 32 ∷ 98 ∷ 101 ∷ 102 ∷ 111 ∷ 114 ∷ 101 ∷ 32 ∷ 105 ∷ 116 ∷ 10 ∷ []

-- " an empty list"
abbrev pub empty_list : List ℕ
empty_list = 32 ∷ 97 ∷ 110 ∷ 32 ∷ 101 ∷ 109 ∷ 112 ∷ 116 ∷ 121 ∷ 32 ∷ 108 ∷ 105 ∷ 115 ∷ 116 ∷ 10 ∷ []

-- " whole by its parts"
abbrev pub whole_by_parts : List ℕ
whole_by_parts = 32 ∷ 119 ∷ 104 ∷ 111 ∷ 108 ∷ 101 ∷ 32 ∷ 98 ∷ 121 ∷ 32 ∷ 105 ∷ 116 ∷ 115 ∷ 32 ∷ 112 ∷ 97 ∷ 114 ∷ 116 ∷ 115 ∷ 10 ∷ []

unfoldable pub kind_words : (kind : ℕ) → List ℕ
kind_words kind = cond (eqb kind 1) already_named (cond (eqb kind 2) not_above (cond (eqb kind 3) empty_list whole_by_parts))

-- `PLACE KIND: WORDS`
unfoldable pub change_line : (place kind : ℕ) → List ℕ
unfolding kind_words
change_line place kind = (printed place ++ (32 ∷ [])) ++ ((printed kind ++ (58 ∷ [])) ++ kind_words kind)
