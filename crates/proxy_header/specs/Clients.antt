-- The client's address that a header gives.
use Rattle.std.specs.Prelude.{◌≡◌, ℕ}
use Rattle.std.specs.declared.net.ip_addr.IpAddr.{IpAddr}
use Rattle.std.specs.declared.net.socket_addr.SocketAddr.{SocketAddr}
use Rattle.std.specs.Net.Socket.{IsPlainSocket, socket_ip}

-- It has this IP address and this port, and neither flow information nor a scope.
pub record IsClientAt (ip : IpAddr) (port : ℕ) (client : SocketAddr) : Type 0 where
  pub ip_is : socket_ip client ≡ ip
  pub plain : IsPlainSocket client port
