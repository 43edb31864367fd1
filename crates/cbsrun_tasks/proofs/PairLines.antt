-- A line of a pair, as the reader of a document stands at it.
use Rattle.std.proofs.Common.{◌≡◌, ◌≢◌, ℕ, ◌==◌, ◌<◌, suc, length, false, List, [], Bool, Some, None, arith, ◌∙◌}
use Rattle.std.proofs.lemmas.Bool.{ne_eqb}
use Rattle.toml_parser.specs.Lexical.{first, skip_blank}
use Rattle.toml.specs.Tables.{Expression, Nodes, no_nodes, define}
use Rattle.toml.specs.Parse.{parse_document, line, lines, skip_bom}
use Rattle.toml.proofs.Turns.{document_none, lines_bad, lines_refused}

-- the lines before this one gave these nodes, and this one is a pair
pub record AtPair (text rest : List ℕ) (ns : Nodes) : Type 0 where
  pub turns : ℕ
  pub room : length rest < turns
  pub before : lines (suc (length text)) (no_nodes, []) (skip_bom text) ≡ lines turns (ns, []) rest
  pub more : (length (skip_blank rest) == 0) ≡ false
  pub pair : (first (skip_blank rest) == 91) ≡ false

-- the reader stands at a pair: it has tested what comes after the blanks
pub at_pair : (text rest start : List ℕ) (ns : Nodes) (m : ℕ) (empty : Bool) (byte : ℕ) → length rest < m
    → lines (suc (length text)) (no_nodes, []) (skip_bom text) ≡ lines m (ns, []) rest → start ≡ skip_blank rest
    → empty ≡ (length start == 0) → empty ≡ false → byte ≡ first start → byte ≢ 91 → AtPair text rest ns
at_pair text rest start ns m empty byte room before start_is empty_is left byte_is other = record {
  turns = m;
  room = room;
  before = before;
  more = rw (← start_is, ← empty_is) left;
  pair = rw (← start_is, ← byte_is) (ne_eqb _ _ other);
}

-- a line that is not read ends the document
pub line_bad : (text rest : List ℕ) (ns : Nodes) → AtPair text rest ns → line (skip_blank rest) ≡ None → parse_document text ≡ None
line_bad text rest ns at read =
    let room = at.room in
    document_none text (at.before ∙ lines_bad at.turns (ns, []) rest (omega arith) at.more read)

-- and so does one that the table refuses
pub line_refused : (text rest : List ℕ) (ns : Nodes) (e : Expression) (after : List ℕ) → AtPair text rest ns → line (skip_blank rest) ≡ Some (e, after)
    → define (ns, []) e ≡ None → parse_document text ≡ None
line_refused text rest ns e after at read again =
    let room = at.room in
    document_none text (at.before ∙ lines_refused at.turns (ns, []) rest e after (omega arith) at.more read again)
