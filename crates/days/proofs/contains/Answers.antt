-- `contains` meets its contract: the search tells a place of the number, or that there is none.
use Rattle.std.proofs.Common.{rules, ℕ, ◌<◌, ◌≡◌, ◌≢◌, length, get_or, MatchBool}
use Rattle.days.proofs.CountLaws.{search_elem}
use Rattle.days.proofs.contains.Goals as goal

pub returns : goal.returns
returns c =
    let colors = c.args.colors.now in
    let found : MatchBool c.any.result ((i : ℕ) × (i < length colors) × (get_or colors i 0 ≡ c.args.number)) ((i : ℕ) → i < length colors → get_or colors i 0 ≢ c.args.number) = search rules in
    record { answer = search_elem c.args.number colors c.any.result found }
