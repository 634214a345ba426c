mod Supports
