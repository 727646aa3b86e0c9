-- Which responses can be used, by their code and their options.
use Rattle.std.specs.Prelude.{not, ◌==◌, ◌||◌, if◌then◌else◌}
use Rattle.coap_codec.specs.Spelling.{Content}
use Rattle.coap_codec.specs.Recognition.{class_of, is_rejected, is_forwardable}
use Rattle.message_layer.specs.declared.options.Fitness.{Fitness}
use Rattle.message_layer.specs.declared.options.Fitness.TheVariants.{Rejected, NotUnderstood, Fits}

-- No response has a code of class 3 (RFC 7252, section 5.9).
abbrev pub fitness_of : Content → Fitness
fitness_of m =
    if is_rejected m then Rejected else (
    if (class_of m == 3) || not (is_forwardable m.options) then NotUnderstood else Fits)
