use Rattle.std.proofs.Common.{◌≡◌, ◌+◌, ◌++◌, vec_items, vec_len, vec_capacity}
use Rattle.records.specs.Places.{places}
use Rattle.records.proofs.text.put_places.Given as goal

abbrev pub invariant-loop-place : goal.invariant-loop-place
invariant-loop-place l =
    (vec_items l.out ++ places l.place l.n ≡ vec_items l.initial.out ++ places l.count l.n) × (vec_len l.out + l.place ≡ vec_len l.initial.out + l.count) × (vec_capacity l.out ≡ vec_capacity l.initial.out)
