use Rattle.std.proofs.Common.{◌≡◌, ◌<◌, ◌≤◌, Some, ap, subst, ◌∙◌, arith}
use Rattle.link_entries.specs.Flat.{number_entries}
use Rattle.link_entries.specs.Finding.{last_inner}
use Rattle.link_entries.proofs.FoundElements.{number_found, number_absent}
use Rattle.link_entries.proofs.finding_elements.find_number.Goals as goal

pub returns-then-index-count_of : goal.returns-then-index-count_of
returns-then-index-count_of c =
    let index = c.from-index.result in
    let same : index ≡ c.args.inner = omega (arith, c.from-index.ensures) in
    let bytes = c.args.bytes.now in
    let few = subst (λ n. index < n) c.count_of.ensures.count c.if-index-count_of.true in
    ap (λ e. Some e) c.number_entry.ensures ∙ number_found c.args.kind c.args.at c.args.of bytes index few
    ∙ ap (λ i. last_inner i (number_entries c.args.kind c.args.at c.args.of bytes)) same

pub returns : goal.returns
returns c =
    let index = c.from-index.result in
    let same : index ≡ c.args.inner = omega (arith, c.from-index.ensures) in
    let bytes = c.args.bytes.now in
    let few = subst (λ n. n ≤ index) c.count_of.ensures.count c.if-index-count_of.false in
    number_absent c.args.kind c.args.at c.args.of bytes index few ∙ ap (λ i. last_inner i (number_entries c.args.kind c.args.at c.args.of bytes)) same
