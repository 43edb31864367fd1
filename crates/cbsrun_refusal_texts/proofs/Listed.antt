-- Servers and parts of a split, listed one after another.
use Rattle.std.proofs.Common.{◌≡◌, ℕ, ◌+◌, ◌<◌, List, [], ◌∷◌, ◌++◌, length, get_or, take, ap, sym, refl, ◌∙◌, arith}
use Rattle.std.proofs.lemmas.List.{append_assoc, append-nil, take_more, length-take-le}
use Rattle.toml.specs.Data.{Data}
use Rattle.cbs_guarantee.specs.declared.parts.Part.{Part}
use Rattle.cbsrun_refusal_texts.specs.Pages.{PageText, Appends, AppendsA}
use Rattle.cbsrun_refusal_texts.proofs.Pages.{before}
use Rattle.cbsrun_refusal_texts.specs.Over.{server_word, separator, servers_from, servers_text, part_line, parts_text, parts_words, IsHelp}

-- one server more at the end
servers_push : (entries : List Data) (place : ℕ) (servers : List ℕ) (s : ℕ)
    → servers_from entries place (servers ++ s ∷ []) ≡ servers_from entries place servers ++ (separator (place + length servers) ++ server_word entries s)
servers_push entries place [] s =
    append_assoc (separator place) (server_word entries s) []
    ∙ ap (λ t. separator place ++ t) (append-nil (server_word entries s))
    ∙ ap (λ n. separator n ++ server_word entries s) (omega arith)
servers_push entries place (t ∷ servers) s =
    ap (λ r. separator place ++ server_word entries t ++ r) (servers_push entries (place + 1) servers s)
    ∙ ap (λ n. separator place ++ server_word entries t ++ (servers_from entries (place + 1) servers ++ (separator n ++ server_word entries s))) (omega arith)
    ∙ by (separator place) (server_word entries t) (servers_from entries (place + 1) servers) (separator (place + length (t ∷ servers)) ++ server_word entries s)
  where
    by : (a b c d : List ℕ) → a ++ b ++ (c ++ d) ≡ (a ++ b ++ c) ++ d
    by a b c d = simp append_assoc

-- the servers up to one more
pub servers_more : (entries : List Data) (servers : List ℕ) (i d : ℕ) → i < length servers
    → servers_text entries (take i servers) ++ (separator i ++ server_word entries (get_or servers i d)) ≡ servers_text entries (take (i + 1) servers)
servers_more entries servers i d lt =
    let e : 0 + length (take i servers) ≡ i = rw (length-take-le i servers (omega arith)) (omega arith) in
    rw (take_more servers i d lt, servers_push entries 0 (take i servers) (get_or servers i d), e) refl

-- one part more at the end
parts_push : (entries : List Data) (number : ℕ) (parts : List Part) (part : Part)
    → parts_text entries number (parts ++ part ∷ []) ≡ parts_text entries number parts
    ++ part_line entries (number + length parts) part.servers.items part.plan.rates
parts_push entries number [] part =
    append-nil (part_line entries number part.servers.items part.plan.rates)
    ∙ ap (λ n. part_line entries n part.servers.items part.plan.rates) (omega arith)
parts_push entries number (p ∷ parts) part =
    ap (λ r. part_line entries number p.servers.items p.plan.rates ++ r) (parts_push entries (number + 1) parts part)
    ∙ ap (λ n. part_line entries number p.servers.items p.plan.rates ++ (parts_text entries (number + 1) parts ++ part_line entries n part.servers.items part.plan.rates))
    (omega arith)
    ∙ by (part_line entries number p.servers.items p.plan.rates) (parts_text entries (number + 1) parts)
    (part_line entries (number + length (p ∷ parts)) part.servers.items part.plan.rates)
  where
    by : (a b c : List ℕ) → a ++ (b ++ c) ≡ (a ++ b) ++ c
    by a b c = simp append_assoc

-- the parts up to one more
pub parts_more : (entries : List Data) (parts : List Part) (i : ℕ) (d : Part) → i < length parts
    → parts_text entries 1 (take i parts) ++ part_line entries (i + 1) (get_or parts i d).servers.items (get_or parts i d).plan.rates
    ≡ parts_text entries 1 (take (i + 1) parts)
parts_more entries parts i d lt =
    let e : 1 + length (take i parts) ≡ i + 1 = rw (length-take-le i parts (omega arith)) (omega arith) in
    rw (take_more parts i d lt, parts_push entries 1 (take i parts) (get_or parts i d), e) refl

-- the help, and the lines of the first parts
pub record IsPartsSoFar (entries : List Data) (parts : List Part) (place : ℕ) (text : List ℕ) : Type 0 where
  pub help : List ℕ
  pub is_help : IsHelp (parts_words (length parts) (length entries)) help
  pub bytes : text ≡ help ++ parts_text entries 1 (take place parts)

module _ (entries : List Data) (parts : List Part) where
  -- the help alone
  pub parts_none : (p q : PageText) → AppendsA (IsHelp (parts_words (length parts) (length entries))) p q → AppendsA (IsPartsSoFar entries parts 0) p q
  parts_none p q help free =
      let h = help free in
      (h.0, record { help = h.0; is_help = h.1; bytes = sym (append-nil h.0) }, h.2, h.3)

  -- .. and one more line
  pub parts_some : (p q r : PageText) (i : ℕ) (part : Part) → i < length parts → part ≡ get_or parts i part → AppendsA (IsPartsSoFar entries parts i) p q
      → Appends q r (part_line entries (i + 1) part.servers.items part.plan.rates) → AppendsA (IsPartsSoFar entries parts (i + 1)) p r
  parts_some p q r i part lt is so_far wrote =
      before p q r (part_line entries (i + 1) part.servers.items part.plan.rates) (IsPartsSoFar entries parts i) (IsPartsSoFar entries parts (i + 1)) so_far wrote
      (λ x h. record {
        help = h.help;
        is_help = h.is_help;
        bytes = ap (λ t. t ++ part_line entries (i + 1) part.servers.items part.plan.rates) h.bytes
            ∙ (append_assoc h.help (parts_text entries 1 (take i parts)) (part_line entries (i + 1) part.servers.items part.plan.rates)
            ∙ ap (λ t. h.help ++ t) (rw (← is) at (parts_more entries parts i part lt)));
      })
