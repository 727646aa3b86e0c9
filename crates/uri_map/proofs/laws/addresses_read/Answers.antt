use Rattle.uri_map.proofs.Addresses.{ipv4_found, ipv4_written, ipv6_found, ipv6_written}
use Rattle.uri_map.proofs.laws.addresses_read.Goals as goal

pub returns-clause-v4 : goal.returns-clause-v4
returns-clause-v4 c = λ text a. (ipv4_written text a, ipv4_found text a)

pub returns-clause-v6 : goal.returns-clause-v6
returns-clause-v6 c = λ text a. (ipv6_written text a, ipv6_found text a)
