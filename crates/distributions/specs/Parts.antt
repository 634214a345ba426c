-- The parts of a Profile, and that its table keeps the rules.
-- Assumes nothing.
use Rattle.distributions.specs.declared.profile.Profile.{Profile}
use Rattle.distributions.specs.Tables.{Parts, parts, Sound}

abbrev pub parts_of : Profile → Parts
parts_of d = parts d.start d.width d.knots.now

pub sound_of : (d : Profile) → Sound (parts_of d).width (parts_of d).knots
sound_of d = d.sound
