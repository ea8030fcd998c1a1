use Rattle.std.proofs.Common.{◌≡◌, ◌<◌, length, ap, ◌∙◌, arith, rules}
use Rattle.book.specs.Model.{Book}
use Rattle.rules.specs.GreedyExists.{greedy_theorems}
use Rattle.rules.specs.Laws.{Asked}
use Rattle.rules.proofs.Serving.{serving_end, serving_next, next_exists}
use Rattle.rules.proofs.by_ranking.GreedyAllocationRule.choose.Goals as goal
use Rattle.rules.proofs.by_ranking.GreedyAllocationRule.choose.Goals.{After-new-round, After-swap_remove-next}
use Rattle.rules.proofs.by_ranking.GreedyAllocationRule.choose.Given as given

-- the round is of this book and these bidders, and its rows are the book's
asked : (g : given.Over) (c : After-new-round g) → Asked c.args.book.now c.args.admitted.word
asked g c = let same = c.new-round.ensures in let asked = c.new-round.result.asked in search rules

own : (g : given.Over) (c : After-new-round g) → c.new-round.result.rows.now ≡ c.args.book.now.rows
own g c = c.new-round.result.own ∙ ap (λ (b : Book). b.rows) c.new-round.ensures.book

-- the one whose turn it is has a row
exists : (g : given.Over) (c : After-swap_remove-next g) → c.swap_remove-next.result.number < length c.new-round.result.rows.now
exists g c =
    let ranking = c.args.self.now.ranking in
    let here = (goal.at.After-swap_remove-next g c).After-new-round in
    let is_first = rw c.as_slice.ensures.value at c.in-Some.ensures in
    let inside = next_exists (g.R.Ranking.before ranking) c.args.book.now c.args.admitted.word
    (g.met.R.Ranking.ranks ranking) (asked g here).limits c.loop-place.waiting.items c.in-Some.place c.swap_remove-next.result
    c.loop-place.allotment c.loop-place.invariant is_first c.swap_remove-next.ensures.value in
    omega (arith, ap length (own g here))

pub offset_bounds-round-next : goal.offset_bounds-round-next
offset_bounds-round-next g c =
    let round = c.new-round.result in
    omega (arith, exists g c, round.asked.limits.few_rows, ap length round.own)

pub bounds-round-next : goal.bounds-round-next
bounds-round-next g c = exists g c

pub loop-place-preserved : goal.loop-place-preserved
loop-place-preserved g c =
    let ranking = c.args.self.now.ranking in
    let here = (goal.at.loop-place-preserved g c).After-new-round in
    let is_first = rw c.as_slice.ensures.value at c.in-Some.ensures in
    let offers = rw (own g here) at c.offer-allotment.ensures in
    rw c.swap_remove-next.ensures.items (serving_next (g.R.Ranking.before ranking) c.args.book.now c.args.admitted.word
    (g.met.R.Ranking.ranks ranking) (asked g here).limits c.loop-place.waiting.items c.in-Some.place c.swap_remove-next.result
    c.loop-place.allotment c.loop-place.invariant is_first c.swap_remove-next.ensures.value c.offer-allotment.result offers)

pub returns : goal.returns
returns g c =
    let ranking = c.args.self.now.ranking in
    let before = g.R.Ranking.before ranking in
    let b = c.args.book.now in
    let w = c.args.admitted.word in
    let is_asked = asked g (goal.at.returns g c).After-new-round in
    let empty = rw c.as_slice.ensures.value at c.in_default.ensures in
    let turns = serving_end before b w c.loop-place.waiting.items c.loop-place.allotment c.loop-place.invariant empty in
    let theorems = greedy_theorems before (g.met.R.Ranking.ranks ranking) in
    record {
      rule = theorems.one b w _ _ is_asked turns (theorems.found b w is_asked);
      turns = turns;
      theorems = theorems;
      limits = is_asked.limits;
    }
