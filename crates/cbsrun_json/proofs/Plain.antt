-- Values that have no float.
use Rattle.std.proofs.Common.{◌≡◌, ℕ, false, List, Option, Some, None, refl}
use Rattle.serde_json.specs.Written.{has_float}
use Rattle.cbsrun_json.specs.Members.{long_if, pair_data, pair_if, text_if, whole_if}

-- a text that there may be has none
pub text_if_plain : (text : Option (List ℕ)) → has_float (text_if text) ≡ false
text_if_plain None = refl
text_if_plain (Some text) = refl

-- nor has a number that there may be
pub whole_if_plain : (n : Option ℕ) → has_float (whole_if n) ≡ false
whole_if_plain None = refl
whole_if_plain (Some n) = refl

pub long_if_plain : (n : Option ℕ) → has_float (long_if n) ≡ false
long_if_plain None = refl
long_if_plain (Some n) = refl

-- nor have two numbers
pub pair_plain : (a b : ℕ) → has_float (pair_data a b) ≡ false
unfolding pair_data
pair_plain a b = refl

-- nor have two numbers that there may be
pub pair_if_plain : (pair : Option (ℕ × ℕ)) → has_float (pair_if pair) ≡ false
pair_if_plain None = refl
pair_if_plain (Some pair) = pair_plain pair.0 pair.1
