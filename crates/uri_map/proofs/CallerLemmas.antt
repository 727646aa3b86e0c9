-- The lemmas on targets and peers that other crates cite. Declares nothing, and no other module of proofs/ can be named from outside.
pub use Rattle.uri_map.proofs.Addresses.{ipv4_read, ipv6_read}
pub use Rattle.uri_map.proofs.Endpoints.{same_address-itself, same_address-same, same_peer-itself, same_peer-same}
pub use Rattle.uri_map.proofs.OptionBytes.{options_len}
pub use Rattle.uri_map.proofs.TargetSteps.{reached}
