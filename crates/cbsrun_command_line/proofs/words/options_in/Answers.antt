use Rattle.std.proofs.Common.{◌≡◌, ◌∙◌, codes, refl, List, Option}
use Rattle.clap.specs.Words.{Row, Text, first_of, found_of, rows_of}
use Rattle.clap.proofs.WalkLemmas.{first_value-rows}
use Rattle.cbsrun_command_line.specs.Words.{said_in}
use Rattle.cbsrun_command_line.proofs.words.options_in.Goals as goal

-- nine options are what the rows give for them
said_is : (rows : List Row) (form from to server seed until seeds strict all : Option Text) → form ≡ first_of (codes "as") rows → from ≡ first_of (codes "from") rows
    → to ≡ first_of (codes "to") rows → server ≡ first_of (codes "server") rows → seed ≡ first_of (codes "seed") rows → until ≡ first_of (codes "until") rows → seeds ≡ first_of (codes "seeds") rows
    → strict ≡ first_of (codes "strict") rows
    → all ≡ first_of (codes "all") rows
    → record { form = form; from = from; to = to; server = server; seed = seed; until = until; seeds = seeds; strict = strict; all = all } ≡ said_in rows
said_is rows form from to server seed until seeds strict all a b c d e f g h i = rw (a, b, c, d, e, f, g, h, i) refl

pub returns : goal.returns
returns c =
    let found = found_of c.args.matches.now in
    said_is (rows_of found) _ _ _ _ _ _ _ _ _ (c.get_str.ensures ∙ first_value-rows found (codes "as")) (c.get_str-2.ensures ∙ first_value-rows found (codes "from"))
    (c.get_str-3.ensures ∙ first_value-rows found (codes "to")) (c.get_str-4.ensures ∙ first_value-rows found (codes "server"))
    (c.get_str-5.ensures ∙ first_value-rows found (codes "seed")) (c.get_str-6.ensures ∙ first_value-rows found (codes "until"))
    (c.get_str-7.ensures ∙ first_value-rows found (codes "seeds")) (c.get_str-8.ensures ∙ first_value-rows found (codes "strict"))
    (c.get_str-9.ensures ∙ first_value-rows found (codes "all"))
