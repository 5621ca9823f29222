-- The sizes of a future's numbers in grains.
use Rattle.std.proofs.Common.{◌≡◌, ◌≤◌, true, mul-le-mul, arith, lit≤}
use Rattle.terms.specs.Cards.{future_fits}
use Rattle.terms.specs.Halves.{steps_of}
use Rattle.terms.specs.declared.cards.Line.{Line}
use Rattle.terms.specs.declared.half.Half.{Half}
use Rattle.terms.specs.declared.half.Half.TheVariants.{One, Two, Four, Eight}
use Rattle.terms.proofs.Sizes.{future_sizes}
use Rattle.banks.specs.Strips.{quote_of}
use Rattle.banks.specs.declared.strip.Quote.{Quote}

pub steps_le : (half : Half) → steps_of half ≤ 8
steps_le One = lit≤ tt
steps_le Two = lit≤ tt
steps_le Four = lit≤ tt
steps_le Eight = lit≤ tt

pub record QuoteSizes (q : Quote) : Type 0 where
  pub base : q.base ≤ 800000000000
  pub step : q.step ≤ 800000000000
  pub change : q.change ≤ 80000000000

pub quote_sizes : (half : Half) (l : Line) → future_fits l ≡ true → QuoteSizes (quote_of half l)
quote_sizes half l h =
    let s = future_sizes l h in
    record {
      base = omega (arith, s.price);
      step = mul-le-mul (steps_le half) (mul-le-mul s.r1 s.spot);
      change = omega (arith, s.change);
    }
