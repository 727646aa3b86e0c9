-- Endpoints that pass the test are one.
use Rattle.std.proofs.Common.{◌≡◌, ℕ, Bool, true, false, ◌&&◌, eqb, inl, inr, List, refl, sym, ap, ◌∙◌}
use Rattle.std.specs.declared.net.ip_addr.IpAddr.{IpAddr}
use Rattle.std.specs.declared.net.ip_addr.IpAddr.TheVariants.{V4, V6}
use Rattle.std.proofs.lemmas.Bool.Decides.{eqb_tells}
use Rattle.std.proofs.lemmas.Bool.{false≢true, and_parts}
use Rattle.std.proofs.lemmas.Slice.Eq.{bytes_eq-Decides}
use Rattle.uri_map.specs.declared.peer.Peer.{Peer}
use Rattle.uri_map.specs.Peers.{same_address, same_peer}

pub same_address-same : (a b : IpAddr) → same_address a b ≡ true → a ≡ b
same_address-same (V4 a) (V4 b) e =
    let with_octets : List ℕ → IpAddr = λ xs. V4 (record { octets = xs }) in
    ap with_octets ((bytes_eq-Decides a.octets b.octets).0 e)
same_address-same (V6 a) (V6 b) e =
    let with_segments : List ℕ → IpAddr = λ xs. V6 (record { segments = xs }) in
    ap with_segments ((bytes_eq-Decides a.segments b.segments).0 e)
same_address-same (V4 a) (V6 b) e = cc
same_address-same (V6 a) (V4 b) e = cc

pub same_peer-same : (p q : Peer) → same_peer p q ≡ true → p ≡ q
same_peer-same p q e =
    let both = and_parts (same_address p.address q.address) (eqb p.port q.port) e in
    let address = same_address-same p.address q.address both.0 in
    let port : p.port ≡ q.port = elim (eqb_tells p.port q.port) [ inl w ↦ w.1 | inr w ↦ absurd (false≢true (sym w.0 ∙ both.1)) ] in
    let with_address : IpAddr → Peer = λ a. record { address = a; port = p.port } in
    let with_port : ℕ → Peer = λ n. record { address = q.address; port = n } in
    ap with_address address ∙ ap with_port port

pub same_address-itself : (a : IpAddr) → same_address a a ≡ true
same_address-itself (V4 a) = (bytes_eq-Decides a.octets a.octets).1 refl
same_address-itself (V6 a) = (bytes_eq-Decides a.segments a.segments).1 refl

pub same_peer-itself : (p : Peer) → same_peer p p ≡ true
same_peer-itself p =
    let address = same_address-itself p.address in
    rw address (elim (eqb_tells p.port p.port) [ inl w ↦ w.0 | inr w ↦ absurd (w.1 refl) ])
