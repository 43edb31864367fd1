-- How the bytes of a record begin.
use Rattle.cbsrun_records.specs.Parts.{text_of}
use Rattle.std.specs.Prelude.{ℕ, Bool, ◌&&◌, ◌==◌, codes, drop, eqb, List}
use Rattle.std.specs.List.{starts_with}
use Rattle.std.specs.Str.{is_utf8}
use Rattle.toml.specs.Parse.{skip_bom}
use Rattle.toml_parser.specs.Lexical.{first, skip_blank, skip_ws}

-- a text begins with the key `record`, which has no quotes, and `=`
abbrev pub begins_pair : List ℕ → Bool
begins_pair text = starts_with eqb text (codes "record") && (first (skip_ws (drop 6 text)) == 61)

-- a text is UTF-8, and after blanks and comments it begins so
abbrev pub begins_so : List ℕ → Bool
begins_so text = is_utf8 text && begins_pair (skip_blank (skip_bom text))

-- the text of the bytes, up to the first byte 3, begins so
abbrev pub begins_record : List ℕ → Bool
begins_record bytes = begins_so (text_of bytes)
