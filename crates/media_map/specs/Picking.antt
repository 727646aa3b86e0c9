-- What a pick shows.
use Rattle.media_map.specs.declared.pick.Pick.{Pick}
use Rattle.media_map.specs.declared.pick.Pick.TheVariants.{Route, Plain}
use Rattle.media_map.specs.declared.wanted.Wanted.{Wanted}
use Rattle.media_map.specs.Accepting.{plain}

abbrev pub wanted_by : Pick → Wanted
wanted_by (Route format media) = record { format = format; media = media.now }
wanted_by (Plain format) = plain format
