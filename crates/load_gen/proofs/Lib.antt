mod HexDigits
mod Lines
