-- What a store's calls come to where they are not refused.
use Rattle.std.proofs.Common.{◌≡◌, ℕ, ◌<◌, true, false, arith}
use Rattle.std.proofs.lemmas.Bool.Decides.{nat_tests}
use Rattle.words.specs.Refusals.{passed}
use Rattle.stores.specs.Holding.{Holding, with_wait, less_wait, add_answer, add_after, remove_answer, remove_after}

module _ (h : Holding) (u v : ℕ) where
  pub add_new : passed ≡ add_answer h u v → h.held u v ≡ false
  add_new done = grind (arith, nat_tests)

  pub add_fits : passed ≡ add_answer h u v → h.count < h.capacity
  add_fits done = grind (arith, nat_tests)

  pub add_done : passed ≡ add_answer h u v → with_wait h u v ≡ add_after h u v
  add_done done = rw (← done)

  pub remove_passed : h.held u v ≡ true → passed ≡ remove_answer h u v
  remove_passed held = rw held

  pub remove_done : h.held u v ≡ true → less_wait h u v ≡ remove_after h u v
  remove_done held = rw held
