use Rattle.std.proofs.Common.{◌≡◌, ℕ, ◌^◌, ◌++◌, ◌∷◌, [], ◌+◌, ◌<◌, ◌≤◌, length, subst, ⊎_elim, arith, rules}
use Rattle.std.proofs.lemmas.Iterator.{YieldsList-from_slice}
use Rattle.std.proofs.lemmas.Iterator.Adapters.{YieldsList-from_skip}
use Rattle.std.proofs.lemmas.Iterator.Consumers.{YieldsList-from_enumerate, YieldsList-turn, YieldsList-end}
use Rattle.std.proofs.lemmas.List.{length_push}
use Rattle.sets.specs.Members.{Has, Within}
use Rattle.book.specs.declared.row.Row.{Row}
use Rattle.rules.specs.Choices.{chosen}
use Rattle.rules.specs.Rounds.{IsRowOf}
use Rattle.rules.proofs.Extending.{Gathered, best_none, gathered_pass, gathered_join, gathered_end}
use Rattle.rules.proofs.Growing.{sum_fits, sound_grown}
use Rattle.rules.proofs.Numbered.{numbered, numbered_at, numbered_length}
use Rattle.rules.proofs.rounds.Round.+extend.Goals as goal
use Rattle.rules.proofs.rounds.Round.+extend.Goals.{In-Some}

pub returns-then-more-eq0 : goal.returns-then-more-eq0
returns-then-more-eq0 t c =
    let round = c.args.self.now in
    let sound = c.requires.sound in
    let first = best_none round.book.now round.asked.limits round.admitted.word c.args.from c.args.more
    (chosen c.args.choice) sound.feasible c.if-more-eq0.true in
    record { sound = sound; first = first }

-- whose turn it is
turn : (t : ℕ) (c : In-Some t) → (c.in-Some.bidder ≡ c.args.from + length c.loop-bidder.yielded)
    × IsRowOf c.args.self.now.book.now c.in-Some.bidder c.in-Some.row.now
turn t c =
    let b = c.args.self.now.book.now in
    let items = YieldsList-from_skip c.args.from (YieldsList-from_enumerate (YieldsList-from_slice b.rows cc) cc) cc in
    numbered_at b c.args.from (length c.loop-bidder.yielded) (c.in-Some.bidder, c.in-Some.row.now)
    (YieldsList-turn items c.loop-bidder.yielded _ c.loop-bidder.yielded_by _ _ (c.in-Some.bidder, c.in-Some.row) c.in-Some.is
    c.next.ensures.steps)

pub join-requires : goal.join-requires
join-requires t c =
    let round = c.args.self.now in
    let b = round.book.now in
    let (number, own) = turn t c in
    let fits = sum_fits b round.admitted.word c.args.choice c.requires.sound c.in-Some.bidder round.asked.limits own.0 in
    record { own = own; room = subst (λ (x : Row). c.args.choice.welfare + x.value < 2 ^ 64) own.1 fits }

-- the bidder whose turn it is is no member yet
absent : (t : ℕ) (c : In-Some t) → Has (chosen c.args.choice) c.in-Some.bidder → ⊥
absent t c h = omega (arith, c.requires.below c.in-Some.bidder h, (turn t c).0)

pub extend-requires : goal.extend-requires
extend-requires t c =
    let round = c.args.self.now in
    let n = c.in-Some.bidder in
    let here = (goal.at.extend-requires t c).In-Some in
    let larger = c.in-Some-join.larger in
    let (free, grows) = c.in-Some-join.ensures in
    let (number, own) = turn t here in
    let sound = sound_grown round.book.now round.admitted.word c.args.choice c.requires.sound n round.asked.limits own.0
    (absent t here) free larger grows in
    let below : Within (n + 1) (chosen larger) =
    λ i h. ⊎_elim (λ old. omega (arith, c.requires.below i old)) (λ new. omega (arith, new.0)) ((grows.grants.0 i).0 h) in
    search rules

-- the next place is the one after this bidder's
onward : (t : ℕ) (c : In-Some t) →
    c.args.from + length (c.loop-bidder.yielded ++ (c.in-Some.bidder, c.in-Some.row) ∷ []) ≡ c.in-Some.bidder + 1
onward t c = omega (arith, length_push c.loop-bidder.yielded (c.in-Some.bidder, c.in-Some.row), (turn t c).0)

-- and all before it have had their turn
so_far : (t : ℕ) (c : In-Some t) → let round = c.args.self.now in
    Gathered round.book.now round.admitted.word c.args.from c.args.more c.args.choice c.loop-bidder.choices.items c.in-Some.bidder
so_far t c = rw (turn t c).0 c.loop-bidder.invariant.0

pub push-requires-in-Some-join : goal.push-requires-in-Some-join
push-requires-in-Some-join t c =
    let here = (goal.at.push-requires-in-Some-join t c).In-Some in
    let few = c.loop-bidder.invariant.1 in
    omega (arith, few, (turn t here).0, (turn t here).1.0, c.args.self.now.asked.limits.few_rows)

pub loop-bidder-preserved : goal.loop-bidder-preserved
loop-bidder-preserved t c =
    let round = c.args.self.now in
    let here = (goal.at.loop-bidder-preserved t c).In-Some in
    let few = c.loop-bidder.invariant.1 in (
      rw (onward t here) (gathered_pass round.book.now round.asked.limits round.admitted.word c.args.from c.args.more
          c.args.choice c.requires.sound c.loop-bidder.choices.items c.in-Some.bidder (so_far t here) (absent t here) c.in_default.ensures),
      omega (arith, few, length_push c.loop-bidder.yielded (c.in-Some.bidder, c.in-Some.row)),
    )

pub loop-bidder-preserved-in-Some-join : goal.loop-bidder-preserved-in-Some-join
loop-bidder-preserved-in-Some-join t c =
    let round = c.args.self.now in
    let here = (goal.at.loop-bidder-preserved-in-Some-join t c).In-Some in
    let few = c.loop-bidder.invariant.1 in
    let grows = c.in-Some-join.ensures.1 in
    let best = c.extend.ensures in
    let (number, own) = turn t here in
    let low : c.in-Some.bidder < 64 = omega (arith, round.asked.limits.few_rows, own.0) in
    let some : 1 ≤ c.args.more = omega (arith, c.if-more-eq0.false) in
    let items = c.push-in-Some-join.ensures.items in (
      rw (onward t here) (rw items (gathered_join round.book.now round.asked.limits round.admitted.word c.args.from c.args.more
          c.args.choice c.requires.sound c.loop-bidder.choices.items c.in-Some.bidder (so_far t here) (omega arith) low (absent t here) some
          c.in-Some-join.larger c.extend.result grows.grants.0 best.sound best.first)),
      omega (arith, few, c.push-in-Some-join.ensures.len, length_push c.loop-bidder.yielded (c.in-Some.bidder, c.in-Some.row)),
    )

pub returns : goal.returns
returns t c =
    let round = c.args.self.now in
    let b = round.book.now in
    let so_far = c.loop-bidder.invariant.0 in
    let foremost = rw c.as_slice.ensures.value at c.first_of.ensures in
    let all : length c.loop-bidder.yielded ≡ length (numbered b c.args.from) =
    (YieldsList-end (YieldsList-from_skip c.args.from (YieldsList-from_enumerate (YieldsList-from_slice b.rows cc) cc) cc)
    c.loop-bidder.yielded _ c.loop-bidder.yielded_by _ _ c.in-None.is c.next.ensures.steps).1 in
    let done : length b.rows ≤ c.args.from + length c.loop-bidder.yielded = omega (arith, numbered_length b c.args.from) in
    let (sound, best) = gathered_end b round.asked.limits round.admitted.word c.args.from c.args.more c.args.choice c.requires.sound
    c.loop-bidder.choices.items (c.args.from + length c.loop-bidder.yielded) so_far done c.first_of.result foremost in
    record { sound = sound; first = best }
