use Rattle.std.proofs.Common.{◌≡◌, ◌∙◌, ℕ, List, sym, subst}
use Rattle.std.specs.Prelude.{codes, string_bytes}
use Rattle.std.proofs.lemmas.Slice.Eq.{bytes_eq-Decides}
use Rattle.cmpca_serve.specs.Words.{IsNumber}
use Rattle.cmpca_serve.proofs.WordLemmas.{if_some_then, serves_seven, seven_ask}
use Rattle.cmpca_serve.proofs.words.read_serve.Goals as goal

pub returns-in-len7-clause-found : goal.returns-in-len7-clause-found
returns-in-len7-clause-found c =
    let serve : string_bytes c.verb-item.result ≡ codes "serve" = sym c.as_str.ensures.value ∙ (bytes_eq-Decides c.as_str.result.now (codes "serve")).0 (sym c.eq.ensures ∙ c.if-eq.true) in
    if_some_then _ _ c.read_plan.result c.read_plan.ensures.found (λ p read.
    serves_seven string_bytes c.args.words.now c.verb-item.result c.port-item.result c.workers-item.result c.connections-item.result p
    c.in-len7.len_at_least c.in-len7.len_below c.verb-item.is c.port-item.is c.workers-item.is c.connections-item.is serve
    (subst (λ (w : List ℕ). IsNumber 65535 w p.port) c.as_str-in-len7.ensures.value read.0)
    (subst (λ (w : List ℕ). IsNumber 16 w p.workers) c.as_str-in-len7-2.ensures.value read.1)
    (subst (λ (w : List ℕ). IsNumber 1000000 w p.connections) c.as_str-in-len7-3.ensures.value read.2))

pub returns-in-len7-clause-only : goal.returns-in-len7-clause-only
returns-in-len7-clause-only c = λ p asks.
    let asked = seven_ask string_bytes c.args.words.now c.verb-item.result c.port-item.result c.workers-item.result c.connections-item.result p c.verb-item.is c.port-item.is c.workers-item.is c.connections-item.is asks in
    c.read_plan.ensures.only p
    (subst (λ (w : List ℕ). IsNumber 65535 w p.port) (sym c.as_str-in-len7.ensures.value) asked.port_is)
    (subst (λ (w : List ℕ). IsNumber 16 w p.workers) (sym c.as_str-in-len7-2.ensures.value) asked.workers_are)
    (subst (λ (w : List ℕ). IsNumber 1000000 w p.connections) (sym c.as_str-in-len7-3.ensures.value) asked.connections_are)
